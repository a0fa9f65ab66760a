use Rattle.std.proofs.Common.{rules, ◌≡◌, true, ◌∙◌}
use Rattle.types.specs.Types.{is_ordinal}
use Rattle.resolver.proofs.ControlTypes.{change_alike, loop_alike, ordinal_tested}
use Rattle.resolver.proofs.heads.for_head.Goals as goal

-- the type of the control variable is ordinal there
pub bound-requires : goal.bound-requires
bound-requires c =
    let id = c.in_ok-control.type_id in
    let test : is_ordinal c.find.new.self.types id ≡ true = search rules in
    record {
      ordinal =
          loop_alike (c.in_ok-number.number, c.in_ok-number.loop_number) c.may_change.new.self c.enter_loop.new.self c.in_ok-number.ensures id
          ∙ change_alike c.args.variable.now.place c.in_ok-control.control c.find.new.self c.may_change.new.self c.in_ok-may_change.ensures.taken id
          ∙ ordinal_tested c.find.new.self.types id test;
    }

-- and behind the first bound
pub bound-requires-2 : goal.bound-requires-2
bound-requires-2 c =
    let id = c.in_ok-control.type_id in
    let test : is_ordinal c.find.new.self.types id ≡ true = search rules in
    record {
      ordinal =
          c.in_ok-first.ensures.kept id
          ∙ loop_alike (c.in_ok-number.number, c.in_ok-number.loop_number) c.may_change.new.self c.enter_loop.new.self c.in_ok-number.ensures id
          ∙ change_alike c.args.variable.now.place c.in_ok-control.control c.find.new.self c.may_change.new.self c.in_ok-may_change.ensures.taken id
          ∙ ordinal_tested c.find.new.self.types id test;
    }
