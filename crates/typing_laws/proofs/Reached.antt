-- How far typing has come: how many sites and points there are, which types, which variables, and what the headings that were passed
-- tell; and the block round a place. What a form is stays so as more of these come.
use Rattle.std.proofs.Common.{◌≡◌, ℕ, zero, suc, ◌≤◌, ◌||◌, Bool, true, List, [], ◌∷◌, ◌++◌, length, map, nat_eq, slice_get, Option, Some, append_assoc}
use Rattle.std.proofs.Common.{append-nil, refl, sym, ap, subst, ◌∙◌, arith, is_none, option_map, get_or, inl, inr, ◌⊎◌}
use Rattle.std.specs.List.{list_any}
use Rattle.std.specs.Prelude.{not}
use Rattle.std.proofs.lemmas.List.{map-append}
use Rattle.types.specs.Forms.{Form}
use Rattle.typed_tree.specs.declared.tree.Variable.{Variable}
use Rattle.typed_tree.specs.declared.tree.Heading.{Heading}
use Rattle.typed_tree.specs.WellFormed.{Outline, is_one_of}
use Rattle.typing.specs.Passing.{Headed, OpenRecord, Passed}

-- ---- longer lists

-- a list with what another has, and perhaps more behind it
pub record IsLonger {A : Type 0} (old new : List A) : Type 0 where
  pub more : List A
  pub goes_on : new ≡ old ++ more

pub as_long : {A : Type 0} {all : List A} → IsLonger all all
as_long {A} {all} = record { more = []; goes_on = sym (append-nil all) }

pub longer_still : {A : Type 0} {old now new : List A} → IsLonger old now → IsLonger now new → IsLonger old new
longer_still {A} {old} f g = record {
  more = f.more ++ g.more;
  goes_on = g.goes_on ∙ ap (λ all. all ++ g.more) f.goes_on ∙ append_assoc old f.more g.more;
}

pub same_longer : {A : Type 0} {old new : List A} → new ≡ old → IsLonger old new
same_longer {A} {old} is = subst (IsLonger old) (sym is) as_long

pub one_longer : {A : Type 0} (old : List A) (x : A) → IsLonger old (old ++ x ∷ [])
one_longer old x = record { more = x ∷ []; goes_on = refl }

pub mapped_longer : {A B : Type 0} (f : A → B) {old new : List A} → IsLonger old new → IsLonger (map f old) (map f new)
mapped_longer f {old} longer = record { more = map f longer.more; goes_on = ap (map f) longer.goes_on ∙ map-append f old longer.more }

get_append : {A : Type 0} (old more : List A) (k : ℕ) (x : A) → slice_get old k ≡ Some x → slice_get (old ++ more) k ≡ Some x
get_append [] more k x is = absurd cc
get_append (y ∷ old) more zero x is = is
get_append (y ∷ old) more (suc k) x is = get_append old more k x is

pub get_last : {A : Type 0} (all : List A) (x : A) → slice_get (all ++ x ∷ []) (length all) ≡ Some x
get_last [] x = refl
get_last (y ∷ all) x = get_last all x

-- what is there stays
pub get_longer : {A : Type 0} {old new : List A} → IsLonger old new → (k : ℕ) (x : A) → slice_get old k ≡ Some x → slice_get new k ≡ Some x
get_longer {A} {old} longer k x is = ap (λ all. slice_get all k) longer.goes_on ∙ get_append old longer.more k x is

-- with one more, what is there was there before, or is the one
pub last_or_before : {A : Type 0} (all : List A) (x : A) (k : ℕ) (y : A) → slice_get (all ++ x ∷ []) k ≡ Some y
    → (slice_get all k ≡ Some y) ⊎ ((k ≡ length all) × (x ≡ y))
last_or_before [] x zero y is = let same : x ≡ y = cc in inr (refl, same)
last_or_before [] x (suc k) y is = absurd cc
last_or_before (z ∷ all) x zero y is = inl is
last_or_before (z ∷ all) x (suc k) y is = by (last_or_before all x k y is)
  where
    by : (slice_get all k ≡ Some y) ⊎ ((k ≡ length all) × (x ≡ y)) → (slice_get all k ≡ Some y) ⊎ ((suc k ≡ suc (length all)) × (x ≡ y))
    by (inl before) = inl before
    by (inr last) = inr (ap suc last.0, last.1)

-- what is there of mapped ones is what one of these is mapped to
pub get_mapped : {A B : Type 0} (f : A → B) (all : List A) (k : ℕ) (y : B) → slice_get (map f all) k ≡ Some y
    → (x : A) × (slice_get all k ≡ Some x) × (f x ≡ y)
get_mapped f [] k y is = absurd cc
get_mapped f (x ∷ all) zero y is = (x, refl, cc)
get_mapped f (x ∷ all) (suc k) y is = get_mapped f all k y is

pub mapped_get : {A B : Type 0} (f : A → B) (all : List A) (k : ℕ) (x : A) → slice_get all k ≡ Some x → slice_get (map f all) k ≡ Some (f x)
mapped_get f [] k x is = absurd cc
mapped_get f (y ∷ all) zero x is = let same : y ≡ x = cc in ap (λ z. Some (f z)) same
mapped_get f (y ∷ all) (suc k) x is = mapped_get f all k x is

pub get_or_is : {A : Type 0} (all : List A) (k : ℕ) (other x : A) → slice_get all k ≡ Some x → get_or all k other ≡ x
get_or_is [] k other x is = absurd cc
get_or_is (y ∷ all) zero other x is = cc
get_or_is (y ∷ all) (suc k) other x is = get_or_is all k other x is

-- ---- what a heading tells

-- the blocks round its block, its parameters, and its result
pub record Signature : Type 0 where
  pub around : List ℕ
  pub parameters : List ℕ
  pub result : Option ℕ

abbrev pub signature_of : Heading → Signature
signature_of heading = record {
  around = heading.around.items;
  parameters = heading.parameters.items;
  result = option_map (λ result. result.root) heading.result;
}

abbrev pub signature_passed : Headed → Signature
signature_passed headed = record { around = headed.around; parameters = headed.parameters; result = headed.result }

-- who may call a routine, and as what: the blocks round its block, and whether it is a function
pub record Head : Type 0 where
  pub around : List ℕ
  pub is_function : Bool

abbrev pub head_of : Signature → Head
head_of signature = record { around = signature.around; is_function = not (is_none signature.result) }

-- ---- how far typing has come

pub record Reached : Type 0 where
  pub sites : ℕ
  pub points : ℕ
  pub types : List Form
  pub variables : List Variable
  pub headings : List Signature
  -- which variables blocks inside others may change
  pub threatens : ℕ → Bool
  -- which variables control no for statement round the place
  pub apart : ℕ → Bool

abbrev pub reached : Passed → Reached
reached s = record {
  sites = length s.sites;
  points = length s.points;
  types = s.types;
  variables = s.variables;
  headings = map signature_passed s.headings;
  threatens = λ root. list_any (nat_eq root) s.threatened;
  apart = λ root. not (list_any (λ control. nat_eq control root) s.controls);
}

-- the whole program
abbrev pub whole_of : Outline → Reached
whole_of o = record {
  sites = o.sites;
  points = o.points;
  types = o.types;
  variables = o.variables;
  headings = map signature_of o.headings;
  threatens = λ root. true;
  apart = λ root. true;
}

-- at least as far
pub record IsFurther (old new : Reached) : Type 0 where
  pub sites : old.sites ≤ new.sites
  pub points : old.points ≤ new.points
  pub types : IsLonger old.types new.types
  pub variables : IsLonger old.variables new.variables
  pub headings : IsLonger old.headings new.headings
  pub threats : (root : ℕ) → old.threatens root ≡ true → new.threatens root ≡ true
  pub apart : (root : ℕ) → old.apart root ≡ true → new.apart root ≡ true

pub as_far : {one : Reached} → IsFurther one one
as_far = record {
  sites = omega arith;
  points = omega arith;
  types = as_long;
  variables = as_long;
  headings = as_long;
  threats = λ root is. is;
  apart = λ root is. is;
}

pub further_still : {old now new : Reached} → IsFurther old now → IsFurther now new → IsFurther old new
further_still f g = record {
  sites = omega (arith, f.sites, g.sites);
  points = omega (arith, f.points, g.points);
  types = longer_still f.types g.types;
  variables = longer_still f.variables g.variables;
  headings = longer_still f.headings g.headings;
  threats = λ root is. g.threats root (f.threats root is);
  apart = λ root is. g.apart root (f.apart root is);
}

-- ---- the block round a place

-- its number, and the blocks round it; and the records of with statements that are open
pub record Here : Type 0 where
  pub block : ℕ
  pub around : List ℕ
  pub records : List OpenRecord

-- a block is this one, or stands round it
abbrev pub is_round_here : Here → ℕ → Bool
is_round_here here block = nat_eq block here.block || is_one_of here.around block

-- its heading was passed
abbrev pub StandsIn : Here → Reached → Type 0
StandsIn here now = (signature : Signature) × (slice_get now.headings here.block ≡ Some signature) × (signature.around ≡ here.around)

pub stands_later : (here : Here) (now next : Reached) → IsFurther now next → StandsIn here now → StandsIn here next
stands_later here now next more stands = (stands.0, get_longer more.headings here.block stands.0 stands.1, stands.2)

-- where the control variables round a place are the same, so are those that are apart
pub apart_kept : (old new : Passed) → new.controls ≡ old.controls → (root : ℕ) → (reached old).apart root ≡ true → (reached new).apart root ≡ true
apart_kept old new kept root is = ap (λ (controls : List ℕ). not (list_any (λ control. nat_eq control root) controls)) kept ∙ is
