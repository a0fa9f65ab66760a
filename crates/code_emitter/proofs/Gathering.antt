-- A loop over the designators of a set constructor: what it has emitted, and how many cells the members need so far.
use Rattle.std.proofs.Common.{◌≡◌, ℕ, ◌+◌, ◌<◌, ◌≤◌, Bool, true, false, List, [], ◌∷◌, ◌++◌, drop, length, max, ap, sym, subst, ◌∙◌, arith, refl}
use Rattle.pcode_assembler.specs.declared.instr.Instr.{Instr}
use Rattle.pcode_assembler.specs.declared.instr.Instr.TheVariants as instr
use Rattle.typed_tree.specs.declared.tree.Designator.{Designator}
use Rattle.typed_tree.specs.declared.tree.Designator.TheVariants as designator
use Rattle.typed_tree.specs.declared.tree.Expr.{Expr}
use Rattle.code_scheme.specs.Code.{designators_code, expr_code, index_codes, set_code, single_code, span_code, union_code}
use Rattle.code_scheme.specs.Depth.{designators_depth, expr_depth, index_depths}
use Rattle.code_scheme.specs.Scopes.{Scope}
use Rattle.code_scheme.specs.Sizes.{capped}
use Rattle.code_emitter.specs.Emitted.{Gets, Seen}
use Rattle.code_emitter.specs.Pieces.{held_sets}
use Rattle.code_emitter.proofs.Emitted.{Left, left_is, left_more}

-- a constructor without designators, and one with some
pub set_none : (designators : List Designator) (codes : List (List Instr)) → length designators ≡ 0
    → set_code designators codes ≡ instr.LoadSet 0 ∷ []
set_none [] codes none = refl
set_none (one ∷ others) codes none = absurd (omega (arith, none))

pub set_some : (designators : List Designator) (codes : List (List Instr)) → (length designators ≡ 0 → ⊥)
    → set_code designators codes ≡ designators_code false designators codes
set_some [] codes some = absurd (some refl)
set_some (one ∷ others) codes some = refl

pub no_depth : (designators : List Designator) (depths : List ℕ) → length designators ≡ 0 → designators_depth 0 designators depths ≡ 1
no_depth [] depths none = refl
no_depth (one ∷ others) depths none = absurd (omega (arith, none))

-- designators without members
pub no_members : (some : Bool) (designators : List Designator) → designators_code some designators [] ≡ []
no_members some [] = refl
no_members some (designator.Single site ∷ others) = refl
no_members some (designator.Range site ∷ others) = refl

pub no_member_depths : (held : ℕ) (designators : List Designator) → designators_depth held designators [] ≡ 1
no_member_depths held [] = refl
no_member_depths held (designator.Single site ∷ others) = refl
no_member_depths held (designator.Range site ∷ others) = refl

-- a range needs its first and its last, as counts in 32 bits have them
two_deep : (first last begin end : ℕ) → begin ≡ capped first → end ≡ capped last → max begin (capped (end + 1)) ≡ capped (max first (last + 1))
two_deep first last begin end p q =
    let behind : capped (end + 1) ≡ capped (last + 1) = omega (arith, q) in
    omega (arith, p, behind)

span_deep : (held first last begin end : ℕ) → begin ≡ capped first → end ≡ capped last
    → capped (max begin (capped (end + 1)) + held) ≡ capped (max (held + first) (held + 1 + last))
span_deep held first last begin end p q =
    let both = two_deep first last begin end p q in
    let cut : capped (capped (max first (last + 1)) + held) ≡ capped (max first (last + 1) + held) = omega arith in
    let same : max first (last + 1) + held ≡ max (held + first) (held + 1 + last) = omega arith in
    ap (λ n. capped (n + held)) both ∙ cut ∙ ap capped same

deeper : (depth one rest : ℕ) → depth ≤ 4294967295 → capped (max (max depth (capped one)) rest) ≡ capped (max depth (max one rest))
deeper depth one rest few = omega (arith, few)

range_deep : (depth first last rest more : ℕ) → depth ≤ 4294967295 → more ≡ max depth (capped (max first last))
    → capped (max more rest) ≡ capped (max depth (max first (max last rest)))
range_deep depth first last rest more few is =
    let both : max first (max last rest) ≡ max (max first last) rest = omega arith in
    let joined = max first last in
    ap (λ n. capped (max n rest)) is
    ∙ deeper depth joined rest few
    ∙ ap (λ n. capped (max depth n)) (sym both)

module _ (scope : Scope) (before : Seen) (designators : List Designator) (members : List Expr) where
  pub record Gathered (now : Seen) (left : List Designator) (next : ℕ) (some : Bool) (depth : ℕ) : Type 0 where
    pub in_range : next ≤ length members
    pub emits : Left before now (designators_code some left (index_codes scope (drop next members)))
        (designators_code false designators (index_codes scope members))
    pub least : 1 ≤ depth
    pub most : depth ≤ 4294967295
    pub needs : capped (max depth (designators_depth (held_sets some) left (index_depths (drop next members))))
        ≡ capped (designators_depth 0 designators (index_depths members))

  -- a single member, and a range
  pub gathered_single : (now valued after : Seen) (left : List Designator) (site next : ℕ) (some : Bool) (depth value more : ℕ) (first : Expr)
      → Gathered now (designator.Single site ∷ left) next some depth → next < length members → drop next members ≡ first ∷ drop (next + 1) members
      → Gets now valued (expr_code scope first) → Gets valued after (single_code site ++ union_code some) → value ≡ capped (expr_depth first)
      → more ≡ max depth (capped (value + held_sets some)) → Gathered after left (next + 1) true more
  gathered_single now valued after left site next some depth value more first w inside there g h deep most =
      let all = ap (λ es. capped (max depth (designators_depth (held_sets some) (designator.Single site ∷ left) (index_depths es)))) there in
      record {
        in_range = omega arith;
        emits = left_more (left_more (left_is w.emits (ap (λ es. designators_code some (designator.Single site ∷ left) (index_codes scope es)) there)) g) h;
        least = omega (arith, w.least, most);
        most = omega (arith, w.most, most);
        needs = omega (arith, all, w.needs, deep, most, w.most);
      }

  pub gathered_span : (now begun valued after : Seen) (left : List Designator) (site next : ℕ) (some : Bool) (depth begin end more : ℕ) (first last : Expr)
      → Gathered now (designator.Range site ∷ left) next some depth → next + 1 < length members
      → drop next members ≡ first ∷ last ∷ drop (next + 2) members → Gets now begun (expr_code scope first) → Gets begun valued (expr_code scope last)
      → Gets valued after (span_code site ++ union_code some) → begin ≡ capped (expr_depth first) → end ≡ capped (expr_depth last)
      → more ≡ max depth (capped (max begin (capped (end + 1)) + held_sets some)) → Gathered after left (next + 2) true more
  gathered_span now begun valued after left site next some depth begin end more first last w inside there g g' h deep deep' most =
      let all = ap (λ es. capped (max depth (designators_depth (held_sets some) (designator.Range site ∷ left) (index_depths es)))) there in
      let rest = designators_depth 1 left (index_depths (drop (next + 2) members)) in
      let within = most ∙ ap (max depth) (span_deep (held_sets some) (expr_depth first) (expr_depth last) begin end deep deep') in
      record {
        in_range = omega arith;
        emits = left_more (left_more (left_more
            (left_is w.emits (ap (λ es. designators_code some (designator.Range site ∷ left) (index_codes scope es)) there)) g) g') h;
        least = omega (arith, w.least, within);
        most = omega (arith, w.most, within);
        needs = range_deep depth (held_sets some + expr_depth first) (held_sets some + 1 + expr_depth last) rest more w.most within ∙ sym all ∙ w.needs;
      }

  -- at other names for the same
  pub gathered_as : (now now' : Seen) (left : List Designator) (next next' : ℕ) (some some' : Bool) (depth depth' : ℕ) → now' ≡ now → next' ≡ next
      → some' ≡ some → depth' ≡ depth → Gathered now left next some depth → Gathered now' left next' some' depth'
  gathered_as now now' left next next' some some' depth depth' p q r s w =
      subst (λ a. Gathered a left next' some' depth') (sym p) (subst (λ a. Gathered now left a some' depth') (sym q)
      (subst (λ a. Gathered now left next a depth') (sym r) (subst (λ a. Gathered now left next some a) (sym s) w)))

  -- with the designators that are left in other words
  pub gathered_left : (now : Seen) (left left' : List Designator) (next : ℕ) (some : Bool) (depth : ℕ) → left ≡ left'
      → Gathered now left next some depth → Gathered now left' next some depth
  gathered_left now left left' next some depth is w = subst (λ l. Gathered now l next some depth) is w
