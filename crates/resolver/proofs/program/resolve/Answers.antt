use Rattle.resolver.proofs.Programs as Programs
use Rattle.resolver.proofs.Programs.{not_resolved, resolved_has}
use Rattle.resolver.proofs.program.resolve.Goals as goal

-- the tree has it all
pub returns : goal.returns
returns c =
    let program = c.args.program.now in
    let answer = c.typed_program.result in
    let resolved = c.typed_program.ensures in
    record {
      typed = resolved_has program _ (Programs.is_typed program) answer resolved;
      refused = not_resolved program answer resolved;
      numbered = resolved_has program _ (Programs.is_numbered program) answer resolved;
      loops_numbered = resolved_has program _ (Programs.loops_are_numbered program) answer resolved;
      in_order = resolved_has program _ (Programs.ids_in_order program) answer resolved;
      by_place = λ order. resolved_has program _ (λ tree is. Programs.sites_by_place program tree is order) answer resolved;
      few_sites = resolved_has program _ (Programs.has_few_sites program) answer resolved;
      well_formed = resolved_has program _ (Programs.is_well_formed program) answer resolved;
      points_in_order = resolved_has program _ (Programs.points_in_order program) answer resolved;
      few_points = resolved_has program _ (Programs.has_few_points program) answer resolved;
      types = resolved_has program _ (Programs.has_types program) answer resolved;
    }
