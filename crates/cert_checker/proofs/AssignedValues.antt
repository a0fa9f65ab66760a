-- The walk over a value that may be noted is the walk over the value, whether it notes anything or not.
use Rattle.std.proofs.Common.{◌≡◌, ◌∙◌, ap, refl, sym, Bool, true, false, cond, List, []}
use Rattle.typed_tree.specs.Entries.{entries_of_expression}
use Rattle.typed_tree.specs.declared.tree.Expr.{Expr}
use Rattle.domain.specs.Versions.{has}
use Rattle.domain.specs.declared.versions.Extension.{Extension}
use Rattle.checker_state.specs.State.{State}
use Rattle.checker_expressions.specs.declared.noting.Noted.{Noted}
use Rattle.checker_expressions.specs.Walk.{Context, Valued, Walked, noting_walk, numbers_of, piece_of, value_walk, valued}
use Rattle.checker_expressions.proofs.EffectsCalls.{Yields}
use Rattle.checker_expressions.proofs.Entered.{Enters, value-entered}
use Rattle.cert_checker.specs.Steps.{noted_where, unnoted_walk}

pub noted-valued : (extension : Extension) (e : Expr) (context : Context) (state : State)
    → (notes : List Noted) × (noted_where extension e context state ≡ valued notes (value_walk e context state))
noted-valued extension e context state = by (has context.version extension)
  where
    by : (b : Bool) → (notes : List Noted) × (cond b (noting_walk [] e context) (unnoted_walk e context) state ≡ valued notes (value_walk e context state))
    by true = ((piece_of e).noted context state, refl)
    by false = ([], refl)

-- it enters what that enters
pub noted-entered : (extension : Extension) (e : Expr) → Enters (noted_where extension e) (entries_of_expression e)
noted-entered extension e context state =
    let (notes, same) = noted-valued extension e context state in
    ap (λ (w : Walked Valued). numbers_of w.linked) same ∙ value-entered e context state

-- it breaks what that breaks
pub noted-breaks : (extension : Extension) (e : Expr) (context : Context) (state : State)
    → (noted_where extension e context state).broken ≡ (value_walk e context state).broken
noted-breaks extension e context state = let (notes, same) = noted-valued extension e context state in ap (λ (w : Walked Valued). w.broken) same

-- it gives what that gives
pub noted-yields : (extension : Extension) (e : Expr) (context : Context) (told : Valued) → Yields context (noted_where extension e) told
    → Yields context (value_walk e) told.known
noted-yields extension e context told yields =
    let (notes, same) = noted-valued extension e context yields.state in
    record {
      state = yields.state;
      unbroken = sym (noted-breaks extension e context yields.state) ∙ yields.unbroken;
      value_is = sym (ap (λ (w : Walked Valued). w.value.known) same) ∙ ap (λ (t : Valued). t.known) yields.value_is;
    }
