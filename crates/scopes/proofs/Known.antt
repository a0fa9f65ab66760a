-- Of regions: what one says after a definition, and that a name that is known stays known.
use Rattle.std.proofs.Common.{◌≡◌, ℕ, Bool, true, false, cond, if◌then◌else◌, List, [], ◌∷◌, ◌++◌, Option, Some, None, IsSome, Ok, Err, IfOk, All, nat_eq, fold}
use Rattle.std.proofs.Common.{map}
use Rattle.std.proofs.Common.{refl, sym, subst, true≢false}
use Rattle.std.specs.Map.{lookup}
use Rattle.std.specs.Cmp.Lexicographic.{pointwise}
use Rattle.std.proofs.lemmas.Slice.Eq.{bytes_eq-Decides}
use Rattle.scopes.specs.declared.denotation.Denotation.{Denotation}
use Rattle.scopes.specs.declared.fault.ScopeFault.TheVariants as fault
use Rattle.std.proofs.lemmas.List.Elements.{All-cons, All-nil}
use Rattle.scopes.specs.Scopes.{Region, said, put, Knows, define, is_defined, is_listed, listing, opened, opened_beside}

pub same_self : (a : List ℕ) → pointwise nat_eq a a ≡ true
same_self a = (bytes_eq-Decides a a).1 refl

-- a name that was put is known
pub known_put : (region : Region) (name : List ℕ) (says : Option Denotation) → IsSome (said (put region name says) name)
known_put [] name says = subst (λ b. IsSome (cond b (Some says) None)) (sym (same_self name)) refl
known_put (entry ∷ entries) name says = by (known_put entries name says) (pointwise nat_eq name entry.0) refl
  where
    by : IsSome (said (put entries name says) name) → (b : Bool) → pointwise nat_eq name entry.0 ≡ b
        → IsSome (said (if b then (entry.0, says) ∷ entries else entry ∷ put entries name says) name)
    by rest true same = subst (λ b. IsSome (cond b (Some says) (lookup (pointwise nat_eq name) entries))) (sym same) refl
    by rest false other = subst (λ b. IsSome (cond b (Some entry.1) (said (put entries name says) name))) (sym other) rest

-- a name that is known stays known
pub put_keeps : (region : Region) (name : List ℕ) (says : Option Denotation) (other : List ℕ)
    → IsSome (said region other) → IsSome (said (put region name says) other)
put_keeps [] name says other known = elim (true≢false (sym known)) [ ]
put_keeps (entry ∷ entries) name says other known =
    by (put_keeps entries name says other) (pointwise nat_eq name entry.0) (pointwise nat_eq other entry.0) refl known
  where
    by : (IsSome (said entries other) → IsSome (said (put entries name says) other)) → (b c : Bool) → pointwise nat_eq other entry.0 ≡ c
        → IsSome (cond c (Some entry.1) (said entries other))
        → IsSome (said (if b then (entry.0, says) ∷ entries else entry ∷ put entries name says) other)
    by rest true true same known = subst (λ b. IsSome (cond b (Some says) (said entries other))) (sym same) refl
    by rest true false apart known = subst (λ b. IsSome (cond b (Some says) (said entries other))) (sym apart) known
    by rest false true same known = subst (λ b. IsSome (cond b (Some entry.1) (said (put entries name says) other))) (sym same) refl
    by rest false false apart known =
        subst (λ b. IsSome (cond b (Some entry.1) (said (put entries name says) other))) (sym apart) (rest known)

abbrev pub put_all : Region → List (List ℕ) → Region
put_all = fold (λ region name. put region name None)

put_all_keeps : (names : List (List ℕ)) (region : Region) (other : List ℕ) → IsSome (said region other) → IsSome (said (put_all region names) other)
put_all_keeps [] region other known = known
put_all_keeps (name ∷ names) region other known = put_all_keeps names (put region name None) other (put_keeps region name None other known)

-- a region knows each name that it opened with
pub opened_knows : (before : List (List ℕ)) (name : List ℕ) (behind : List (List ℕ)) (region : Region)
    → IsSome (said (fold (λ region name. put region name None) region (before ++ name ∷ behind)) name)
opened_knows [] name behind region = put_all_keeps behind (put region name None) name (known_put region name None)
opened_knows (other ∷ before) name behind region = opened_knows before name behind (put region other None)

-- a region that comes of another by names that it lists too
module _ (lists : Region → List ℕ → Region)
    (keeps : (region : Region) (name other : List ℕ) → IsSome (said region other) → IsSome (said (lists region name) other))
    (knows : (region : Region) (name : List ℕ) → IsSome (said (lists region name) name)) where
  all_keep : (names : List (List ℕ)) (region : Region) (other : List ℕ) → IsSome (said region other) → IsSome (said (fold lists region names) other)
  all_keep [] region other known = known
  all_keep (name ∷ names) region other known = all_keep names (lists region name) other (keeps region name other known)

  all_listed : {A : Type 0} (key : A → List ℕ) (forms : List A) (region : Region)
      → All (λ form. IsSome (said (fold lists region (map key forms)) (key form))) forms
  all_listed key [] region = All-nil (λ form. IsSome (said region (key form)))
  all_listed key (form ∷ forms) region =
      All-cons (λ f. IsSome (said (fold lists (lists region (key form)) (map key forms)) (key f))) form forms
      (all_keep (map key forms) (lists region (key form)) (key form) (knows region (key form))) (all_listed key forms (lists region (key form)))

-- the region of a block knows the names that it opened with
pub opened_lists : {A : Type 0} (key : A → List ℕ) (forms : List A) → All (λ form. IsSome (said (opened (map key forms)) (key form))) forms
opened_lists key forms =
    all_listed (λ region name. put region name None) (λ region name. put_keeps region name None) (λ region name. known_put region name None) key forms []

listing_keeps : (region : Region) (name other : List ℕ) → IsSome (said region other) → IsSome (said (listing region name) other)
listing_keeps region name other known = by (is_listed (said region name))
  where
    by : (b : Bool) → IsSome (said (if b then region else put region name None) other)
    by true = known
    by false = put_keeps region name None other known

listing_knows : (region : Region) (name : List ℕ) → IsSome (said (listing region name) name)
listing_knows region name = by (said region name) refl
  where
    by : (says : Option (Option Denotation)) → said region name ≡ says → IsSome (said (if is_listed says then region else put region name None) name)
    by None is = known_put region name None
    by (Some one) is = subst IsSome (sym is) refl

-- so does one beside parameters
pub beside_lists : {A : Type 0} (key : A → List ℕ) (forms : List A) (parameters : Region)
    → All (λ form. IsSome (said (opened_beside parameters (map key forms)) (key form))) forms
beside_lists key forms parameters = all_listed listing listing_keeps listing_knows key forms parameters

-- a name that is known stays known when a definition is passed
pub define_keeps : (regions : List Region) (name : List ℕ) (denotation : Denotation) (other : List ℕ)
    → Knows regions other → IfOk (define name denotation regions) (λ after. Knows after other)
define_keeps [] name denotation other known = elim known [ ]
define_keeps (region ∷ outer) name denotation other known = by (is_defined (said region name))
  where
    by : (b : Bool) → IfOk (if b then Err fault.DeclaredTwice else Ok (put region name (Some denotation) ∷ outer)) (λ after. Knows after other)
    by true = tt
    by false = put_keeps region name (Some denotation) other known
