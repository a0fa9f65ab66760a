-- Members of sets: what no member is, and ranges that are empty.
use Rattle.std.proofs.Common.{◌≡◌, ◌⊎◌, inl, inr, ℕ, ◌+◌, ◌^◌, ◌≤◌, refl, ap, sym, ◌∙◌, arith, true, false, bit_and, bit_or, subst, Bool, Some, None}
use Rattle.std.specs.Prelude.{ℤ, pos, negsuc, int_lt, nat_lt, min, if◌then◌else◌, ◌&&◌, ◌||◌}
use Rattle.std.proofs.lemmas.Bool.{false≢true}
use Rattle.std.proofs.lemmas.Bool.Decides.{nat_tests}
use Rattle.std.proofs.lemmas.Nat.{and_le_r, or_disjoint}
use lib.Pow.{pow_mono}
use Rattle.members.specs.Laws.{IsSet}
use Rattle.typed_tree.specs.declared.tree.Dyadic.{Dyadic}
use Rattle.typed_tree.specs.declared.tree.Dyadic.TheVariants as dyadic
use Rattle.typed_tree.specs.declared.tree.Relation.{Relation}
use Rattle.meaning.specs.declared.value.Value.{Value}
use Rattle.members.specs.Members.{can_be_member, count_below, count_to, has, of_range}
use Rattle.members.proofs.Memberships.{can_be}
use Rattle.meaning.specs.declared.value.Value.TheVariants.{Number}
use Rattle.meaning.specs.Effect.{State, and_then, give, require}
use Rattle.meaning.specs.Meaning.{operated_both, with_range}
use Rattle.interpreter_state.specs.Answers.{member_at, numbers_both}

-- what isn't among the numbers that can be members is in no set
none_chosen : (b : Bool) (n : ℤ) → (if b then Some n else None) ≡ None → b ≡ false
none_chosen true n is = absurd cc
none_chosen false n is = refl

never : (set : ℕ) (n : ℤ) (b : Bool) → IsSet set → can_be_member n ≡ false → has set n ≡ b → has set n ≡ false
never set n false small outside is = is
never set n true small outside is = absurd (false≢true (sym outside ∙ can_be set n small is))

pub no_member : (set : ℕ) (n : ℤ) → IsSet set → member_at n ≡ None → has set n ≡ false
no_member set n small is = never set n (has set n) small (none_chosen (can_be_member n) n is) refl

-- a range whose last number lies below its first
up_up : (l h : ℕ) → nat_lt h l ≡ true → min (h + 1) 128 ≤ min l 128
up_up l h less = grind (arith, nat_tests)

fewer : (low high : ℤ) → int_lt high low ≡ true → count_to high ≤ count_below low
fewer (pos l) (pos h) less = up_up l h less
fewer (pos l) (negsuc h) less = omega arith
fewer (negsuc l) (negsuc h) less = omega arith
fewer (negsuc l) (pos h) less = absurd (false≢true less)

nothing : (low high : ℤ) → int_lt high low ≡ true → of_range low high ≡ 0
nothing low high less =
    let bound : 2 ^ count_to high ≤ 2 ^ count_below low = pow_mono (fewer low high less) in
    omega (arith, bound)

same_with_none : (set : ℕ) → bit_or set 0 ≡ set
same_with_none set =
    let none : bit_and set 0 ≡ 0 = omega (arith, and_le_r set 0) in
    or_disjoint set 0 none ∙ omega arith

pub adds_nothing : (site : ℕ) (low high : ℤ) (set : ℕ) (s : State) → int_lt high low ≡ true →
    with_range site (Number low) (Number high) set s ≡ give set s
adds_nothing site low high set s less =
    let rest = can_be_member low && can_be_member high in
    ap (λ (b : Bool). and_then (require (b || rest) site s) (λ _. give (bit_or set (of_range low high)))) less
    ∙ ap (λ (n : ℕ). give n s) (ap (λ r. bit_or set r) (nothing low high less) ∙ same_with_none set)

-- an operation on two numbers
of_one_kind : (operation other : Dyadic) (a b : Value) (s : State) → operation ≡ other → operated_both other a b s ≡ numbers_both other a b s →
    operated_both operation a b s ≡ numbers_both operation a b s
of_one_kind operation other a b s is same = subst (λ (o : Dyadic). operated_both o a b s ≡ numbers_both o a b s) (sym is) same

pub of_numbers : (operation : Dyadic) (a b : Value) (s : State) →
    ((x : ℕ) × (operation ≡ dyadic.Plus x)) ⊎ (((x : ℕ) × (operation ≡ dyadic.Minus x)) ⊎ (((x : ℕ) × (operation ≡ dyadic.Times x))
    ⊎ (((x : ℕ) × (operation ≡ dyadic.Div x)) ⊎ (((x : ℕ) × (operation ≡ dyadic.Mod x)) ⊎ ((operation ≡ dyadic.And) ⊎ ((operation ≡ dyadic.Or)
    ⊎ ((x : Relation) × (operation ≡ dyadic.Relation x)))))))) → operated_both operation a b s ≡ numbers_both operation a b s
of_numbers operation a b s (inl is) = of_one_kind operation _ a b s is.1 refl
of_numbers operation a b s (inr (inl is)) = of_one_kind operation _ a b s is.1 refl
of_numbers operation a b s (inr (inr (inl is))) = of_one_kind operation _ a b s is.1 refl
of_numbers operation a b s (inr (inr (inr (inl is)))) = of_one_kind operation _ a b s is.1 refl
of_numbers operation a b s (inr (inr (inr (inr (inl is))))) = of_one_kind operation _ a b s is.1 refl
of_numbers operation a b s (inr (inr (inr (inr (inr (inl is)))))) = of_one_kind operation _ a b s is refl
of_numbers operation a b s (inr (inr (inr (inr (inr (inr (inl is))))))) = of_one_kind operation _ a b s is refl
of_numbers operation a b s (inr (inr (inr (inr (inr (inr (inr is))))))) = of_one_kind operation _ a b s is.1 refl
