use Rattle.std.proofs.Common.{◌≡◌, List, Option, Some, None, slice_get, refl, sym, arith, ◌∙◌, ap, subst}
use Rattle.std.proofs.lemmas.Option.{slice_get_past, slice_get_read}
use Rattle.typed_tree.specs.declared.tree.Variable.{Variable as DeclaredVariable}
use Rattle.types.specs.Components.{components_of}
use Rattle.meaning.specs.declared.value.Value.{Value}
use Rattle.meaning.specs.Store.{Place, kept}
use Rattle.meaning.specs.Meaning.{Argument, OfRow, assign}
use Rattle.interpreter_state.specs.Views.{operand_seen}
use Rattle.interpreter.specs.Pending.{StoreAgrees, kept_all}
use Rattle.interpreter.proofs.Activating.{then_ok}
use Rattle.interpreter.proofs.Rows.{stored_all}
use Rattle.interpreter.proofs.interpreter.Run.assign.Goals as goal

pub returns-in-Value-clause-agrees : goal.returns-in-Value-clause-agrees
returns-in-Value-clause-agrees c = then_ok c.keep.result c.keep.ensures.agrees (λ keeps visible s sees agrees.
    let tree = c.args.self.now.tree.now in
    let root = c.args.root in
    let formal = slice_get tree.variables.items root in
    let home = c.in_ok-place.ensures ∙ sym (sees.variables root) in (
      kept s.store (visible.variables root) c.in-Value.value,
      ap (λ (a : Argument). assign tree.types (visible.variables root) formal a s) (ap operand_seen c.in-Value.is),
      subst (λ (p : Option Place). StoreAgrees c.keep.new.self.store (kept s.store p c.in-Value.value)) home (keeps s.store agrees),
    ))

pub returns-in-Some-clause-agrees : goal.returns-in-Some-clause-agrees
returns-in-Some-clause-agrees c = then_ok c.keep_row.result c.keep_row.ensures.agrees (λ keeps visible s sees agrees.
    let tree = c.args.self.now.tree.now in
    let root = c.args.root in
    let formal = c.in-Some.formal.now in
    let row = c.in-Row.row.items in
    let home = c.in_ok-place.ensures ∙ sym (sees.variables root) in
    let components = components_of tree.types formal.type_id in
    let found : slice_get tree.variables.items root ≡ Some formal =
    ap (λ (l : List DeclaredVariable). slice_get l root) (sym c.deref.ensures.value)
    ∙ slice_get_read c.deref.result.now _ root formal refl (omega (arith, c.in-Some.ensures.lookup)) c.in-Some.ensures.lookup.1 in (
      kept_all s.store (visible.variables root) components row,
      ap (λ (a : Argument). assign tree.types (visible.variables root) (slice_get tree.variables.items root) a s) (ap operand_seen c.in-Row.is)
          ∙ ap (λ (o : Option DeclaredVariable). assign tree.types (visible.variables root) o (OfRow row) s) found
          ∙ stored_all (visible.variables root) components row s,
      subst (λ (l : List Value). StoreAgrees c.keep_row.new.self.store (kept_all s.store (visible.variables root) components l))
          c.deref-in-Some.ensures.value
          (subst (λ (p : Option Place). StoreAgrees c.keep_row.new.self.store (kept_all s.store p components c.deref-in-Some.result.now)) home
          (keeps s.store agrees)),
    ))

pub returns-in-Row-clause-agrees : goal.returns-in-Row-clause-agrees
returns-in-Row-clause-agrees c = λ visible s sees agrees.
    let tree = c.args.self.now.tree.now in
    let root = c.args.root in
    let row = c.in-Row.row.items in
    let missing : slice_get tree.variables.items root ≡ None =
    ap (λ (l : List DeclaredVariable). slice_get l root) (sym c.deref.ensures.value)
    ∙ slice_get_past c.deref.result.now root (omega (arith, c.in-None.ensures.lookup)) in (
      s.store,
      ap (λ (a : Argument). assign tree.types (visible.variables root) (slice_get tree.variables.items root) a s) (ap operand_seen c.in-Row.is)
          ∙ ap (λ (o : Option DeclaredVariable). assign tree.types (visible.variables root) o (OfRow row) s) missing,
      agrees,
    )

pub returns-clause-agrees : goal.returns-clause-agrees
returns-clause-agrees c = λ visible s sees agrees.
    let tree = c.args.self.now.tree.now in
    let root = c.args.root in (
      s.store,
      ap (λ (a : Argument). assign tree.types (visible.variables root) (slice_get tree.variables.items root) a s) (ap operand_seen c.in-Place.is),
      agrees,
    )
