-- A list whose last element is changed.
use Rattle.std.proofs.Common.{◌≡◌, ℕ, suc, zero, ◌-◌, ◌<◌, false, List, [], ◌∷◌, map, length, get_or, set, refl, ap, ◌∙◌, arith}
use Rattle.certificate.specs.declared.LoopClaims.{LoopClaims as KeptLoop}
use Rattle.certificate.specs.declared.claim.Content.{Content as KeptContent}
use Rattle.certificate.specs.declared.claim.Content.TheVariants as kept
use Rattle.certificate.specs.Lines.{ClaimLine}
use Rattle.certificate.specs.Contents.{LoopClaims, Section, is_empty, loop_of}
use Rattle.certificate.specs.Building.{added, in_last, in_loop, in_section, said_content, with_claim}

changed_at : {K A : Type 0} (view : K → A) (change : A → A) (xs : List K) (d y : K) (i : ℕ) → suc i ≡ length xs
    → view y ≡ change (view (get_or xs i d)) → map view (set xs i y) ≡ in_last change (map view xs)
changed_at view change [] d y i last is = absurd (omega arith)
changed_at view change (x ∷ []) d y zero last is = ap (λ one. one ∷ []) is
changed_at view change (x ∷ []) d y (suc i) last is = absurd (omega arith)
changed_at view change (x ∷ next ∷ more) d y zero last is = absurd (omega arith)
changed_at view change (x ∷ next ∷ more) d y (suc i) last is =
    ap (λ rest. view x ∷ rest) (changed_at view change (next ∷ more) d y i (omega arith) is)

-- a list of kept elements whose last one is replaced is, as it is seen, one whose last element is changed
pub last_changed : {K A : Type 0} (view : K → A) (change : A → A) (xs : List K) (len : ℕ) (one y : K) → len ≡ length xs → 0 < len
    → one ≡ get_or xs (len - 1) one → view y ≡ change (view one) → map view (set xs (len - 1) y) ≡ in_last change (map view xs)
last_changed view change xs len one y all some is changed =
    changed_at view change xs one y (len - 1) (omega arith) (changed ∙ ap (λ x. change (view x)) is)

-- a claim goes to the last loop of a section that has one
pub in_last_loop : (claim : ClaimLine) (section : Section) (loops : List LoopClaims) → is_empty section.loops ≡ false
    → loops ≡ in_last (in_loop claim) section.loops → record section { loops = loops } ≡ with_claim claim section
in_last_loop claim section loops some is = rw some (ap (λ (l : List LoopClaims). record section { loops = l }) is)

-- a line that is no block's heading goes to the last section
pub in_last_section : (content : KeptContent) (sections new : List Section) → ((number : ℕ) → content ≡ kept.Block number → ⊥)
    → new ≡ in_last (in_section (said_content content)) sections → new ≡ added (said_content content) sections
in_last_section (kept.Block number) sections new other is = absurd (other number refl)
in_last_section (kept.Loop number) sections new other is = is
in_last_section (kept.Claimed claim) sections new other is = is

-- a vector that isn't empty has loops as it is seen
pub some_loops : (loops : List KeptLoop) (n : ℕ) → n ≡ length loops → 0 < n → is_empty (map loop_of loops) ≡ false
some_loops [] n len some = absurd (omega arith)
some_loops (one ∷ loops) n len some = refl
