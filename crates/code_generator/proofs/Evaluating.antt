-- What is shown of the code of an expression: it leaves the expression's value on top, or stops as the expression does; and
-- of a statement: it keeps store and cells alike, or stops as the statement does.
use Rattle.code_generator.proofs.Words.{subst, ◌≡◌, ℕ, ◌+◌, ◌<◌, ◌≤◌, List, [], ◌∷◌, ◌++◌, length, Option, Some, None, refl, sym, append_assoc, Bool, true, inr}
use Rattle.code_generator.proofs.Words.{◌&&◌, and_parts}
use Rattle.code_generator.proofs.Words.{ℤ, Instr, Expr, is_well_formed_expr, Value, UsesTurnsExactly, value_of, Cell, Undefined, Number, State}
use Rattle.code_generator.proofs.Words.{expr_code, expr_depth, ap, ◌∙◌, Ok, Action, ◌>>=◌, require, RangeTest}
use Rattle.pcode_assembler.specs.declared.instr.Instr.TheVariants as instr
use Rattle.typed_tree.specs.declared.tree.Link.{Link}
use Rattle.typed_tree.specs.declared.tree.Scalar.{Scalar}
use Rattle.typed_tree.specs.declared.tree.Scalar.TheVariants as scalar
use Rattle.typed_tree.specs.declared.tree.Expr.TheFolds.{fold-Link}
use Rattle.typed_tree.specs.Kinds.{Held, expression_held, held_by, is_ordinal_expr, link_held, passed_held}
use Rattle.typed_tree.specs.Records.{Begin, begins, expression_begins, link_begins, passed_begins}
use Rattle.code_generator.proofs.Texts.{compares_strings, expression_compares, link_compares, passed_compares}
use Rattle.typed_tree.specs.WellFormed.{is_well_formed_link}
use Rattle.types.specs.Forms.{Form}
use Rattle.meaning.specs.declared.value.Value.TheVariants as value
use Rattle.check_remover.specs.Strip.{stays}
use Rattle.stack_machine.specs.declared.cell.Cell.TheVariants.{Set}
use Rattle.stack_machine.specs.Frames.{is_defined}
use Rattle.meaning.specs.Effect as effect
use Rattle.meaning.specs.Effect.{fetched}
use Rattle.meaning.specs.Meaning.{Evaluation, Combination, Execution, link_of}
use Rattle.stack_machine.specs.Frames as frames
use Rattle.code_scheme.specs.Code.{Placed, link_code, range_check, tested_check}
use Rattle.code_scheme.specs.Depth.{link_depth}
use Rattle.code_generator.proofs.Acts.{framed, defines, is_in_range}
use Rattle.code_generator.proofs.Scalars.{HasFit, HasKind, cell_of, is_kind, value_cell}
use Rattle.code_generator.proofs.Sets.{set_within}
use Rattle.code_generator.proofs.Numbers.{Fits, same_range}
use Rattle.code_generator.proofs.Reach.{StandsAt, Stands}
use Rattle.code_generator.proofs.Setting.{AllHeld, Setting, outline, around, on, Based, linked, passes, fails}
use Rattle.code_generator.proofs.Running.{Aim, Evaluates, Executes, Runs, check_then, gives}

-- what comes of an operator with its right operand, whether its accesses begin at what is there, and whether it compares
-- strings alone
abbrev pub link_held_by : Link → Held → Held
link_held_by = fold-Link Held Bool (Held → Held) expression_held passed_held link_held

abbrev pub link_begins_by : Link → Begin
link_begins_by = fold-Link Begin Begin Begin expression_begins passed_begins link_begins

abbrev pub link_strings : List Form → Link → Bool
link_strings types = fold-Link Bool Bool Bool (expression_compares types) (passed_compares types) (link_compares types)

-- what is shown of the like is shown of these
pub same_four : {A B C D : Type 0} (IsShown : A → B → C → D → Type 0) {a a' : A} {b b' : B} {c c' : C} {d d' : D} → a ≡ a' → b ≡ b' → c ≡ c' → d ≡ d'
    → IsShown a' b' c' d' → IsShown a b c d
same_four IsShown {a} {a'} {b} {b'} {c} {c'} {d} {d'} p q r s shown =
    subst (λ x. IsShown x b c d) (sym p) (subst (λ x. IsShown a' x c d) (sym q)
    (subst (λ x. IsShown a' b' x d) (sym r) (subst (IsShown a' b' c') (sym s) shown)))

-- what is known of a form: whether it is well formed, what its operands and its value are, whether its accesses begin at what
-- is there, and whether it compares and writes strings alone
pub record Shape (W H : Type 0) : Type 0 where
  pub well : W
  pub held : H
  pub there : Bool
  pub strings : Bool

abbrev shape_by : {W H : Type 0} → W → H → Bool → Bool → Shape W H
shape_by w h t s = record { well = w; held = h; there = t; strings = s }

-- the like of the like
pub same_shape : {W H : Type 0} {w w' : W} {h h' : H} {t t' s s' : Bool} → w ≡ w' → h ≡ h' → t ≡ t' → s ≡ s'
    → shape_by w h t s ≡ shape_by w' h' t' s'
same_shape {W} {H} {w} {w'} {h} {h'} {t} {t'} {s} {s'} p q r e =
    ap (λ x. shape_by x h t s) p ∙ ap (λ x. shape_by w' x t s) q ∙ ap (λ x. shape_by w' h' x s) r ∙ ap (shape_by w' h' t') e

-- a form that is in order
abbrev pub Good : Shape Bool Bool → Type 0
Good shape = (shape.well ≡ true) × (shape.held ≡ true) × (shape.there ≡ true) × (shape.strings ≡ true)

-- two forms, both of which have to be in order
abbrev pub both : Shape Bool Bool → Shape Bool Bool → Shape Bool Bool
both a b = record {
  well = a.well && b.well;
  held = a.held && b.held;
  there = a.there && b.there;
  strings = a.strings && b.strings;
}

pub good_parts : (a b : Shape Bool Bool) → Good (both a b) → Good a × Good b
good_parts a b good =
    let well = and_parts a.well b.well good.0 in
    let held = and_parts a.held b.held good.1 in
    let there = and_parts a.there b.there good.2 in
    let strings = and_parts a.strings b.strings good.3 in
    ((well.0, held.0, there.0, strings.0), (well.1, held.1, there.1, strings.1))

-- what is always in order
abbrev pub in_order : Shape Bool Bool
in_order = record { well = true; held = true; there = true; strings = true }

-- an expression, with a value of a kind
abbrev pub Gives : Scalar → Shape Bool Held → Type 0
Gives kind shape = (shape.well ≡ true) × (shape.held ≡ Some kind) × (shape.there ≡ true) × (shape.strings ≡ true)

-- an operator with its right operand, behind a value of a kind
abbrev pub Makes : Scalar → Scalar → Shape Bool (Held → Held) → Type 0
Makes before kind shape =
    (shape.well ≡ true) × (shape.held (Some before) ≡ Some kind) × (shape.there ≡ true) × (shape.strings ≡ true)

-- the cell of a value is defined
pub cell_defined : (v : Value) → is_defined (value_cell v) ≡ true
cell_defined (value.Number n) = refl
cell_defined (value.Members set) = refl

module _ (g : Setting) where
  abbrev pub sites : ℕ
  sites = length g.tree.sites.items

  -- the store in the running frame
  abbrev pub frames_of : List Cell → frames.Frames
  frames_of = framed g.frame g.limit g.size

  -- the machine behind the fetch of an instruction
  abbrev pub fetched_at : List Cell → ℕ → effect.State → State
  fetched_at cells place s = record (on g cells place s) { place = g.target.to place + 1 }

  -- the code c of an evaluation
  abbrev pub RunsAs : List Instr → ℕ → Shape Bool Held → Evaluation → Type 0
  RunsAs c depth shape evaluation =
      (kind : Scalar) (place : ℕ) (base held : List Cell) (s : effect.State) → Stands g.target place c → Gives kind shape → Based g s base
      → g.below + length held + depth ≤ g.limit
      → Evaluates g kind (on g (base ++ held) place s) held (place + length c) (evaluation (around g)) s

  -- the code c of an operator and its right operand
  abbrev pub CombinesAs : List Instr → ℕ → Shape Bool (Held → Held) → Combination → Type 0
  CombinesAs c depth shape combination =
      (before kind : Scalar) (place : ℕ) (base held : List Cell) (left : Value) (s : effect.State) → Stands g.target place c → Makes before kind shape
      → Based g s base → g.below + length held + depth ≤ g.limit → HasKind before left
      → Evaluates g kind (on g ((base ++ held) ++ value_cell left ∷ []) place s) held (place + length c) (combination (around g) left) s

  -- the code c of an execution
  abbrev pub ExecutesAs : Placed → ℕ → Shape Bool Bool → Execution → Type 0
  ExecutesAs c depth shape execution =
      (place : ℕ) (base held : List Cell) (s : effect.State) → Stands g.target place (c g.scope place) → Good shape → Based g s base
      → AllHeld g held → g.below + length held + depth ≤ g.limit
      → Executes g (on g (base ++ held) place s) held (place + length (c g.scope place)) (execution (around g)) s

  -- what is known of an expression
  abbrev pub shape_of : Expr → Shape Bool Held
  shape_of e = record {
    well = is_well_formed_expr (outline g) g.number e;
    held = held_by e;
    there = begins e g.opened;
    strings = compares_strings g.tree.types e;
  }

  abbrev pub link_shape : Link → Shape Bool (Held → Held)
  link_shape l = record {
    well = is_well_formed_link (outline g) g.number l;
    held = link_held_by l;
    there = link_begins_by l g.opened;
    strings = link_strings g.tree.types l;
  }

  -- that an expression is an ordinal in order
  abbrev pub ordinal_shape : Expr → Shape Bool Bool
  ordinal_shape e = record {
    well = is_well_formed_expr (outline g) g.number e;
    held = is_ordinal_expr e;
    there = begins e g.opened;
    strings = compares_strings g.tree.types e;
  }

  pub ordinal_good : (e : Expr) → Good (ordinal_shape e) → Gives scalar.Ordinal (shape_of e)
  ordinal_good e good = (good.0, is_kind scalar.Ordinal (held_by e) good.1, good.2, good.3)

  -- what is shown of an expression, and of an operator and its right operand
  abbrev pub ExprRuns : Expr → Type 0
  ExprRuns e = RunsAs (expr_code g.scope e) (expr_depth e) (shape_of e) (value_of e)

  pub record LinkRuns (l : Link) : Type 0 where
    pub combines : CombinesAs (link_code g.scope l) (link_depth l) (link_shape l) (link_of l)
    pub exact : (v : Value) → UsesTurnsExactly (link_of l (around g) v)
    -- nothing comes of it behind what is no value
    pub needs : (kind : Scalar) → link_held_by l None ≡ Some kind → ⊥

  -- what is held with one cell more on top, over the same cells
  pub one_held : (base held : List Cell) (a : Cell) → base ++ (held ++ a ∷ []) ≡ (base ++ held) ++ a ∷ []
  one_held base held a = sym (append_assoc base held (a ∷ []))

  -- the test of an ordinal on top, and what comes behind it
  pub range_then : {A : Type 0} (aim : Aim A) (fits : RangeTest) (n : ℤ) (below : List Cell) (place : ℕ) (s : effect.State) (next : Action A)
      → StandsAt g.target place (range_check fits) (g.target.is_open fits.site) → fits.site < sites → g.frame + 4 ≤ length below → Fits n
      → (effect.is_in fits.range (value.Number n) ≡ true → Runs g aim (on g (below ++ Number n ∷ []) (place + 1) s) next s)
      → Runs g aim (on g (below ++ Number n ∷ []) place s) (require (effect.is_in fits.range (value.Number n)) fits.site >>= (λ _. next)) s
  range_then aim fits n below place s next stands within in_frame fit rest =
      check_then g aim (range_check fits) fits.site place (below ++ Number n ∷ []) s next _ (effect.is_in fits.range (value.Number n)) stands refl refl
      (is_in_range g.frame g.limit g.size below in_frame fits.range.first fits.range.last n ∙ ap Ok (sym (same_range fits.range n fit)))
      within rest

  -- the test of a value that is assigned or passed
  pub value_tested : {A : Type 0} (aim : Aim A) (tests : Scalar) (fits : RangeTest) (v : Value) (below : List Cell) (place : ℕ) (s : effect.State)
      (next : Action A) → StandsAt g.target place (tested_check tests fits) (stays g.target.is_open (tested_check tests fits)) → fits.site < sites
      → g.frame + 4 ≤ length below → HasKind tests v
      → (effect.is_in fits.range v ≡ true → Runs g aim (on g (below ++ value_cell v ∷ []) (place + 1) s) next s)
      → Runs g aim (on g (below ++ value_cell v ∷ []) place s) (require (effect.is_in fits.range v) fits.site >>= (λ _. next)) s
  value_tested aim scalar.Ordinal fits (value.Number n) below place s next stands within in_frame has rest =
      range_then aim fits n below place s next stands within in_frame has rest
  value_tested aim scalar.Ordinal fits (value.Members set) below place s next stands within in_frame has rest = absurd has
  value_tested aim scalar.Set fits (value.Number n) below place s next stands within in_frame has rest = absurd has
  value_tested aim scalar.Set fits (value.Members set) below place s next stands within in_frame has rest =
      check_then g aim (instr.CheckSet fits.site fits.range.first fits.range.last) fits.site place (below ++ Set set ∷ []) s next _
      (effect.is_in fits.range (value.Members set)) stands refl refl
      (set_within g.frame g.limit g.size below in_frame fits.range.first fits.range.last set) within rest

  -- what a variable holds, on top, and its check
  pub fetched_runs : (kind : Scalar) (place defined : ℕ) (base held : List Cell) (s : effect.State) (found : Option Value)
      → StandsAt g.target place (instr.CheckDefined defined 1) (g.target.is_open defined) → defined < sites → Based g s base
      → g.below + length held < g.limit → HasFit (Some kind) found
      → Evaluates g kind (on g ((base ++ held) ++ cell_of found ∷ []) place s) held (place + 1) (fetched found defined) s
  fetched_runs kind place defined base held s None stands within based room fit =
      inr (fails g (instr.CheckDefined defined 1) ((base ++ held) ++ Undefined ∷ []) place defined s _ refl refl s.turns stands within
      (defines g.frame g.limit g.size (base ++ held) (linked g s base held based) Undefined))
  fetched_runs kind place defined base held s (Some v) stands within based room fit =
      inr (gives g kind 0 _ base held (place + 1) v s based
      (passes g (instr.CheckDefined defined 1) ((base ++ held) ++ value_cell v ∷ []) place defined s _ refl refl stands
      (defines g.frame g.limit g.size (base ++ held) (linked g s base held based) (value_cell v)
      ∙ ap (λ b. Ok (b && true)) (cell_defined v)))
      fit room)
