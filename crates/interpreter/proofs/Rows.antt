-- The values of the components of a place, from one of them on.
use Rattle.std.proofs.Common.{◌≡◌, ℕ, suc, ◌+◌, ◌<◌, List, [], ◌∷◌, ◌++◌, drop, get_or, length, Option, Some, None, option_map, slice_index_or}
use Rattle.std.proofs.Common.{append_assoc, arith, refl, sym, ap, ◌∙◌}
use Rattle.std.proofs.Math.Seq.{drop-cons}
use Rattle.types.specs.declared.form.Step.{Step}
use Rattle.meaning.specs.declared.outcome.Ending.TheVariants as ending
use Rattle.meaning.specs.declared.value.Value.{Value}
use Rattle.meaning.specs.Store.{Place, Store, held, kept, part}
use Rattle.meaning.specs.Effect.{State, Action, Gives, ◌>>=◌, and_then, fetch_all, fetched, give, stop, store_all}
use Rattle.interpreter.specs.Pending.{held_all, joined, kept_all}

-- values in front of others, if these are there
abbrev pub in_front : List Value → Option (List Value) → Option (List Value)
in_front row others = option_map (λ rest. row ++ rest) others

pub one_more : (row : List Value) (v : Value) (others : Option (List Value)) → in_front row (joined (Some v) others) ≡ in_front (row ++ v ∷ []) others
one_more row v None = refl
one_more row v (Some rest) = ap Some (sym (append_assoc row (v ∷ []) rest))

-- the components from one of them on
pub from-component : (components : List (List Step)) (i : ℕ) → i < length components →
    drop i components ≡ slice_index_or components i [] ∷ drop (i + 1) components
from-component components i there =
    let one : suc i ≡ i + 1 = omega arith in
    drop-cons components i [] there ∙ ap (λ n. slice_index_or components i [] ∷ drop n components) one

pub from-value : (row : List Value) (i : ℕ) (v : Value) → i < length row → v ≡ get_or row i v → drop i row ≡ v ∷ drop (i + 1) row
from-value row i v there is =
    let one : suc i ≡ i + 1 = omega arith in
    drop-cons row i v there ∙ ap (λ w. w ∷ drop (suc i) row) (sym is) ∙ ap (λ k. v ∷ drop k row) one

-- where no values are left, nothing more is kept
pub kept-none : (store : Store) (p : Option Place) (components : List (List Step)) → kept_all store p components [] ≡ store
kept-none store p [] = refl
kept-none store p (steps ∷ components) = refl

-- a row that was fetched, or the error where there is none
abbrev pub row_fetched : Option (List Value) → ℕ → Action (List Value)
row_fetched None site = stop (ending.Error site)
row_fetched (Some row) site = give row

first_fetched : (o : Option Value) (others : Option (List Value)) (rest : Action (List Value)) (site : ℕ) (s : State) →
    rest s ≡ row_fetched others site s → (fetched o site >>= λ v. rest >>= λ values. give (v ∷ values)) s ≡ row_fetched (joined o others) site s
first_fetched None others rest site s is = refl
first_fetched (Some v) None rest site s is = ap (λ r. and_then r (λ values. give (v ∷ values))) is
first_fetched (Some v) (Some row) rest site s is = ap (λ r. and_then r (λ values. give (v ∷ values))) is

pub fetched_all : (p : Option Place) (components : List (List Step)) (site : ℕ) (s : State) →
    fetch_all p components site s ≡ row_fetched (held_all s.store p components) site s
fetched_all p [] site s = refl
fetched_all p (steps ∷ components) site s =
    first_fetched (held s.store (part p steps)) (held_all s.store p components) (fetch_all p components site) site s (fetched_all p components site s)

pub stored_all : (p : Option Place) (components : List (List Step)) (row : List Value) (s : State) →
    store_all p components row s ≡ Gives tt (record s { store = kept_all s.store p components row })
stored_all p [] row s = refl
stored_all p (steps ∷ components) [] s = refl
stored_all p (steps ∷ components) (v ∷ row) s = stored_all p components row (record s { store = kept s.store (part p steps) v })
