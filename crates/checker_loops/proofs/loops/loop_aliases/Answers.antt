use Rattle.std.proofs.Common.{◌≡◌, ◌∙◌, ◌++◌, ap, ap₂, length, refl, sym, map, ℕ}
use Rattle.std.specs.Global.{Vec}
use Rattle.std.specs.Prelude.{Some, None, slice_get}
use Rattle.std.proofs.lemmas.Option.{slice_get_past, slice_get_read}
use Rattle.checker_loops.specs.Loops.{aliases_there, claims_at, controls_inside}
use Rattle.checker_loops.specs.Pairs.{all_aliases_in}
use Rattle.checker_loops.specs.View.{said_claims}
use Rattle.checker_loops.proofs.Aliased.{aliases-there}
use Rattle.checker_loops.proofs.loops.loop_aliases.Goals.{in-Some+in_ok-add_all_aliases+in_ok-add_all_aliases-2, in_default}
use Rattle.checker_loops.proofs.loops.loop_aliases.Goals as goal

pub returns : goal.returns
returns c =
    let tree = c.args.tree.now in
    let listed = c.args.pairs.now in
    let number = c.args.number in
    let changes = (claims_at (map said_claims c.args.claims.now) number).changes in
    let loops = c.deref.result.now in
    elim c.match-get.branch [
      | in-Some+in_ok-add_all_aliases+in_ok-add_all_aliases-2 w ↦
          let row = w.in-Some.row.now in
          let found = w.in-Some.ensures.lookup in
          let at : slice_get tree.loops.items number ≡ Some row =
          ap (λ all. slice_get all number) (sym c.deref.ensures.value) ∙ slice_get_read loops (length loops) number row refl found.3.0 found.1 in
          ap (λ (v : Vec ℕ). v.items) w.aliases-is ∙ w.in_ok-add_all_aliases-2.ensures
          ∙ ap₂ (λ items more. items ++ all_aliases_in listed row.block more)
          (w.in_ok-add_all_aliases.ensures
          ∙ ap₂ (λ start controls. start ++ all_aliases_in listed row.block controls) c.new-aliases.ensures.items w.deref-in-Some.ensures.value)
          w.changes_at.ensures
          ∙ aliases-there listed tree number row changes at
      | in_default w ↦
          let none : slice_get tree.loops.items number ≡ None =
          ap (λ all. slice_get all number) (sym c.deref.ensures.value) ∙ slice_get_past loops number w.in_default.ensures.lookup.3 in
          ap (λ (v : Vec ℕ). v.items) w.aliases-is ∙ c.new-aliases.ensures.items
          ∙ sym (ap (aliases_there listed (controls_inside tree number ++ changes)) none)
    ]
