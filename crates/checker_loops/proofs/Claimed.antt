-- The claims of a certificate by the numbers of the loops; and lists that are made element by element.
use Rattle.std.proofs.Common.{arith, replicate, subst, ◌≡◌, ◌∙◌, sym, ap, refl, ℕ, ◌+◌, ◌<◌}
use Rattle.std.proofs.Common.{Bool, true, false, cond, nat_eq, List, [], ◌∷◌, ◌++◌, Option, Some, None}
use Rattle.std.proofs.Common.{length, map, take, get_or}
use Rattle.std.proofs.lemmas.List.{ext_get_or, get_or-map, get_or-replicate, length-map, length-replicate, map-append, take_more}
use Rattle.std.proofs.lemmas.List.FromFn.{length-map-range_with_len, get_or-map-range_with_len}
use Rattle.std.specs.List.{range_with_len}
use denote.Ref.{Bor}
use Rattle.certificate.specs.declared.Certificate.{Certificate}
use Rattle.certificate.specs.declared.LoopClaims.{LoopClaims as KeptClaims}
use Rattle.certificate.specs.declared.Section.{Section as KeptSection}
use Rattle.checker_loops.specs.Loops.{claims_of, claims_on, found_among, found_in, no_claims, or_else}
use Rattle.certificate.specs.Contents.{LoopClaims, Section, contents, loop_of, section_of}
use Rattle.checker_loops.specs.View.{AreFound, claims_found, found_as}

-- one element more
pub mapped-more : {X Y : Type 0} (f : X → Y) (xs : List X) (i : ℕ) (x : X) → i < length xs → x ≡ get_or xs i x
    → map f (take i xs) ++ f x ∷ [] ≡ map f (take (i + 1) xs)
mapped-more f xs i x inside is =
    ap (λ y. map f (take i xs) ++ f y ∷ []) is ∙ sym (map-append f (take i xs) (get_or xs i x ∷ [])) ∙ ap (map f) (sym (take_more xs i x inside))

-- ---- claims by the numbers of their loops

or_else-none : (found : Option LoopClaims) → or_else found None ≡ found
or_else-none None = refl
or_else-none (Some one) = refl

or_else-both : (first second third : Option LoopClaims) → or_else (or_else first second) third ≡ or_else first (or_else second third)
or_else-both None second third = refl
or_else-both (Some one) second third = refl

unless-here : (here : Bool) (one : LoopClaims) (all first second : Option LoopClaims) → all ≡ or_else first second
    → cond here (Some one) all ≡ or_else (cond here (Some one) first) second
unless-here true one all first second is = refl
unless-here false one all first second is = is

-- one more, of several
among-more : (number : ℕ) (loops : List LoopClaims) (one : LoopClaims)
    → found_among number (loops ++ one ∷ []) ≡ or_else (found_among number loops) (found_among number (one ∷ []))
among-more number [] one = refl
among-more number (other ∷ loops) one =
    unless-here (nat_eq other.number number) other (found_among number (loops ++ one ∷ [])) (found_among number loops) (found_among number (one ∷ []))
    (among-more number loops one)

in-more : (number : ℕ) (sections : List Section) (section : Section)
    → found_in number (sections ++ section ∷ []) ≡ or_else (found_in number sections) (found_among number section.loops)
in-more number [] section = or_else-none (found_among number section.loops)
in-more number (other ∷ sections) section =
    ap (or_else (found_among number other.loops)) (in-more number sections section)
    ∙ sym (or_else-both (found_among number other.loops) (found_in number sections) (found_among number section.loops))

-- one more section, and one more loop
pub loops-more : (number : ℕ) (loops : List KeptClaims) (i : ℕ) (one : KeptClaims) → i < length loops → one ≡ get_or loops i one
    → found_among number (map loop_of (take (i + 1) loops))
    ≡ or_else (found_among number (map loop_of (take i loops))) (found_among number (loop_of one ∷ []))
loops-more number loops i one inside is =
    ap (found_among number) (sym (mapped-more loop_of loops i one inside is)) ∙ among-more number (map loop_of (take i loops)) (loop_of one)

pub sections-more : (number : ℕ) (sections : List KeptSection) (i : ℕ) (one : KeptSection) → i < length sections → one ≡ get_or sections i one
    → found_in number (map section_of (take (i + 1) sections))
    ≡ or_else (found_in number (map section_of (take i sections))) (found_among number (map loop_of one.loops.items))
sections-more number sections i one inside is =
    ap (found_in number) (sym (mapped-more section_of sections i one inside is)) ∙ in-more number (map section_of (take i sections)) (section_of one)

-- ---- what is found

abbrev pub Rows : Type 0
Rows = List (Option (Bor KeptClaims))

-- nothing is found
pub found-nothing : (rows : Rows) → AreFound rows rows (λ number. None)
found-nothing rows = record {
  same_length = refl;
  each = λ number inside. sym (or_else-none (found_as (get_or rows number None)));
}

-- what is found first, and then
pub found-then : (old mid new : Rows) (first second both : ℕ → Option LoopClaims) → AreFound old mid first → AreFound mid new second
    → ((number : ℕ) → both number ≡ or_else (first number) (second number)) → AreFound old new both
found-then old mid new first second both one other same = record {
  same_length = other.same_length ∙ one.same_length;
  each = λ number inside.
      other.each number (omega (arith, one.same_length))
      ∙ ap (λ f. or_else f (second number)) (one.each number inside)
      ∙ or_else-both (found_as (get_or old number None)) (first number) (second number)
      ∙ ap (or_else (found_as (get_or old number None))) (sym (same number));
}

-- only nothing is a copy of nothing
pub none-cloned : {X : Type 0} (IsClone : Option X → Type 0) → ((one : X) → IsClone (Some one) → ⊥) → (y : Option X) → IsClone y → y ≡ None
none-cloned IsClone never None is = refl
none-cloned IsClone never (Some one) is = absurd (never one is)

-- what all sections fill
pub all-found : (certificate : Certificate) (count : ℕ) (rows : Rows)
    → AreFound (replicate count None) rows (λ number. found_in number (contents certificate))
    → map claims_found rows ≡ map (claims_on certificate) (range_with_len 0 count)
all-found certificate count rows found =
    let long : length rows ≡ count = found.same_length ∙ length-replicate count None in
    ext_get_or no_claims (map claims_found rows) (map (claims_on certificate) (range_with_len 0 count))
    (length-map rows claims_found ∙ long ∙ sym (length-map-range_with_len (claims_on certificate) 0 count))
    (λ number inside.
    let below : number < count = omega (arith, length-map rows claims_found, long) in
    let empty : Rows = replicate count None in
    let known : number < length empty = subst (λ n. number < n) (sym (length-replicate count None)) below in
    get_or-map claims_found rows number None no_claims (omega (arith, long, below))
    ∙ ap claims_of
    (found.each number known ∙ ap (λ f. or_else (found_as f) (found_in number (contents certificate))) (get_or-replicate count number None None below))
    ∙ sym (get_or-map-range_with_len (claims_on certificate) 0 count number number no_claims below (omega arith)))
