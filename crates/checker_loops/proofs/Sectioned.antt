-- The sections of a certificate by the numbers of their blocks.
use Rattle.std.proofs.Common.{arith, ◌≡◌, ◌∙◌, sym, ap, refl, subst, ℕ, ◌+◌, ◌<◌, Bool, true, false, cond, nat_eq, List, [], ◌∷◌, ◌++◌, Option, Some, None}
use Rattle.std.proofs.Common.{length, map, take, get_or, replicate}
use Rattle.std.proofs.lemmas.List.{ext_get_or, get_or-map, get_or-replicate, length-map, length-replicate, take_more}
use Rattle.std.proofs.lemmas.List.FromFn.{length-map-range_with_len, get_or-map-range_with_len}
use Rattle.std.specs.List.{range_with_len}
use denote.Ref.{Bor}
use Rattle.certificate.specs.declared.Certificate.{Certificate}
use Rattle.certificate.specs.declared.Section.{Section as KeptSection}
use Rattle.certificate.specs.Contents.{contents, section_of}
use Rattle.checker_loops.specs.Sections.{BlockClaims, block_claims_in, no_block_claims}
use Rattle.checker_loops.specs.BlockView.{AreFound, claims_of, first_on, found_as, or_else, found_claims}

or_else-none : (found : Option KeptSection) → or_else found None ≡ found
or_else-none None = refl
or_else-none (Some one) = refl

or_else-both : (first second third : Option KeptSection) → or_else (or_else first second) third ≡ or_else first (or_else second third)
or_else-both None second third = refl
or_else-both (Some one) second third = refl

abbrev pub Rows : Type 0
Rows = List (Option (Bor KeptSection))

-- nothing is found
pub found-nothing : (rows : Rows) → AreFound rows rows (λ number. first_on number [])
found-nothing rows = record {
  same_length = refl;
  each = λ number inside. sym (or_else-none (found_as (get_or rows number None)));
}

-- what is found first, and then
pub found-then : (old mid new : Rows) (first second both : ℕ → Option KeptSection) → AreFound old mid first → AreFound mid new second
    → ((number : ℕ) → both number ≡ or_else (first number) (second number)) → AreFound old new both
found-then old mid new first second both one other same = record {
  same_length = other.same_length ∙ one.same_length;
  each = λ number inside.
      other.each number (omega (arith, one.same_length))
      ∙ ap (λ f. or_else f (second number)) (one.each number inside)
      ∙ or_else-both (found_as (get_or old number None)) (first number) (second number)
      ∙ ap (or_else (found_as (get_or old number None))) (sym (same number));
}

unless-here : (here : Bool) (one : KeptSection) (all first second : Option KeptSection) → all ≡ or_else first second
    → cond here (Some one) all ≡ or_else (cond here (Some one) first) second
unless-here true one all first second is = refl
unless-here false one all first second is = is

on-more : (number : ℕ) (sections : List KeptSection) (one : KeptSection)
    → first_on number (sections ++ one ∷ []) ≡ or_else (first_on number sections) (first_on number (one ∷ []))
on-more number [] one = refl
on-more number (other ∷ sections) one =
    unless-here (nat_eq other.block number) other (first_on number (sections ++ one ∷ [])) (first_on number sections) (first_on number (one ∷ []))
    (on-more number sections one)

-- one section more
pub sections-more : (number : ℕ) (sections : List KeptSection) (i : ℕ) (one : KeptSection) → i < length sections → one ≡ get_or sections i one
    → first_on number (take (i + 1) sections) ≡ or_else (first_on number (take i sections)) (first_on number (one ∷ []))
sections-more number sections i one inside is =
    ap (first_on number) (take_more sections i one inside ∙ ap (λ last. take i sections ++ last ∷ []) (sym is))
    ∙ on-more number (take i sections) one

claimed-here : (here : Bool) (section : KeptSection) (rest : Option KeptSection) (claims : BlockClaims) → claims_of rest ≡ claims
    → claims_of (cond here (Some section) rest) ≡ cond here (claims_of (Some section)) claims
claimed-here true section rest claims is = refl
claimed-here false section rest claims is = is

-- what the first section on a block claims
claims-first : (number : ℕ) (sections : List KeptSection) → claims_of (first_on number sections) ≡ block_claims_in number (map section_of sections)
claims-first number [] = refl
claims-first number (section ∷ sections) =
    claimed-here (nat_eq section.block number) section (first_on number sections) (block_claims_in number (map section_of sections))
    (claims-first number sections)

-- what all sections fill
pub all-found : (certificate : Certificate) (count : ℕ) (rows : Rows)
    → AreFound (replicate count None) rows (λ number. first_on number certificate.sections.items)
    → map found_claims rows ≡ map (λ number. block_claims_in number (contents certificate)) (range_with_len 0 count)
all-found certificate count rows found =
    let claims : ℕ → BlockClaims = λ number. block_claims_in number (contents certificate) in
    let long : length rows ≡ count = found.same_length ∙ length-replicate count None in
    ext_get_or no_block_claims (map found_claims rows) (map claims (range_with_len 0 count))
    (length-map rows found_claims ∙ long ∙ sym (length-map-range_with_len claims 0 count))
    (λ number inside.
    let below : number < count = omega (arith, length-map rows found_claims, long) in
    let empty : Rows = replicate count None in
    let known : number < length empty = subst (λ n. number < n) (sym (length-replicate count None)) below in
    get_or-map found_claims rows number None no_block_claims (omega (arith, long, below))
    ∙ ap claims_of
    (found.each number known
    ∙ ap (λ f. or_else (found_as f) (first_on number certificate.sections.items)) (get_or-replicate count number None None below))
    ∙ claims-first number certificate.sections.items
    ∙ sym (get_or-map-range_with_len claims 0 count number number no_block_claims below (omega arith)))
