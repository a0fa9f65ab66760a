-- The code of a program ends with an instruction that is no call: behind each call another instruction follows. And for how
-- many turns an instruction makes up.
use Rattle.code_generator.proofs.Words.{◌≡◌, ℕ, zero, suc, ◌+◌, ◌<◌, ◌≤◌, ⊎_elim, List, [], ◌∷◌, ◌++◌, length, max, take, Option, Some, None, refl, sym, ap}
use Rattle.code_generator.proofs.Words.{◌∙◌, subst, arith, length-append, append_assoc, Bool, slice_get, if◌then◌else◌, cases_lt, sum_by-cons, none-some}
use Rattle.code_generator.proofs.Words.{same_Some, slice_get_within, Instr, Block, Tree, routines_of, block_depth, Scope, block_scope, count, other_cells}
use Rattle.std.specs.Prelude.{count_by}
use Rattle.pcode_assembler.specs.declared.instr.Instr.TheVariants as instr
use Rattle.typed_tree.specs.declared.tree.FunctionResult.{FunctionResult}
use Rattle.code_scheme.specs.declared.routine.Routine.{Routine}
use Rattle.code_scheme.specs.Code.{block_code, blocks_code, end_code, program_code, return_code, stmt_code}
use Rattle.code_generator.proofs.Repeats.{repeats}
use Rattle.code_generator.proofs.Lists.{slice_behind}

-- an instruction behind which none need follow
abbrev pub Closes : Instr → Type 0
Closes instr.Stop = Unit {0}
Closes (instr.Return results) = Unit {0}
Closes _ = ⊥

-- code that ends with one
pub record Closing (code : List Instr) : Type 0 where
  pub front : List Instr
  pub last : Instr
  pub splits : code ≡ front ++ last ∷ []
  pub closes : Closes last

closing_behind : (before code : List Instr) → Closing code → Closing (before ++ code)
closing_behind before code c = record {
  front = before ++ c.front;
  last = c.last;
  splits = ap (λ l. before ++ l) c.splits ∙ sym (append_assoc before c.front (c.last ∷ []));
  closes = c.closes;
}

closing_return : (scope : Scope) (result : Option FunctionResult) → Closing (return_code scope result)
closing_return scope None = record { front = []; last = instr.Return 0; splits = refl; closes = tt }
closing_return scope (Some result) =
    closing_behind (_ ∷ _ ∷ []) (instr.Return 1 ∷ []) (record { front = []; last = instr.Return 1; splits = refl; closes = tt })

closing_end : (scope : Scope) (number : ℕ) (result : Option FunctionResult) → Closing (end_code scope number result)
closing_end scope zero result = record { front = []; last = instr.Stop; splits = refl; closes = tt }
closing_end scope (suc number) result = closing_return scope result

closing_block : (tree : Tree) (number : ℕ) (block : Block) (scope : Scope) (place : ℕ) → Closing (block_code tree number block scope place)
closing_block tree number block scope place =
    closing_behind (instr.Enter (count (other_cells tree number)) (count (block_depth block)) ∷ stmt_code block.body scope (place + 1))
    (end_code scope number block.heading.result) (closing_end scope number block.heading.result)

closing_blocks : (tree : Tree) (routines : List Routine) (number : ℕ) (block : Block) (blocks : List Block) (place : ℕ)
    → Closing (blocks_code tree routines number (block ∷ blocks) place)
closing_blocks tree routines number block [] place =
    let code = block_code tree number block (block_scope tree routines number) place in
    subst Closing (nothing_behind code) (closing_block tree number block (block_scope tree routines number) place)
  where
    nothing_behind : (code : List Instr) → code ≡ code ++ []
    nothing_behind [] = refl
    nothing_behind (i ∷ code) = ap (λ l. i ∷ l) (nothing_behind code)
closing_blocks tree routines number block (next ∷ blocks) place =
    let code = block_code tree number block (block_scope tree routines number) place in
    closing_behind code (blocks_code tree routines (suc number) (next ∷ blocks) (place + length code))
    (closing_blocks tree routines (suc number) next blocks (place + length code))

pub first_block : (blocks : List Block) → 0 < length blocks → (block : Block) × (rest : List Block) × (blocks ≡ block ∷ rest)
first_block [] there = absurd (omega (arith, there))
first_block (block ∷ rest) there = (block, rest, refl)

pub closing : (tree : Tree) → 0 < length tree.blocks.items → Closing (program_code tree)
closing tree there =
    let f = first_block tree.blocks.items there in
    subst (λ blocks. Closing (blocks_code tree (routines_of tree) 0 blocks 0)) (sym f.2) (closing_blocks tree (routines_of tree) 0 f.0 f.1 0)

-- behind a call one follows
pub more_behind : (code : List Instr) (place n target : ℕ) → Closing code → slice_get code place ≡ Some (instr.CallProcedure n target)
    → (front : List Instr) × (last : Instr) × (code ≡ front ++ last ∷ []) × Closes last × (place < length front)
more_behind code place n target c at =
    ⊎_elim
    (λ (low : place < length c.front). (c.front, c.last, c.splits, c.closes, low))
    (λ (high : length c.front ≤ place).
    let inside = slice_get_within code place (instr.CallProcedure n target) at in
    let end : place ≡ length c.front + 0 = omega (arith, high, inside, ap length c.splits, length-append c.front (c.last ∷ [])) in
    let same = sym (slice_behind c.front (c.last ∷ []) 0 place end) ∙ ap (λ l. slice_get l place) (sym c.splits) ∙ at in
    absurd (subst Closes (same_Some c.last (instr.CallProcedure n target) same) c.closes))
    (cases_lt place (length c.front))

-- of more instructions no fewer stay
pub count_grows : {A : Type 0} (test : A → Bool) (xs : List A) (i j : ℕ) → i ≤ j → count_by test (take i xs) ≤ count_by test (take j xs)
count_grows test [] zero zero le = omega arith
count_grows test [] zero (suc j) le = omega arith
count_grows test [] (suc i) zero le = omega arith
count_grows test [] (suc i) (suc j) le = omega arith
count_grows test (x ∷ xs) zero j le = omega arith
count_grows test (x ∷ xs) (suc i) zero le = absurd (omega (arith, le))
count_grows test (x ∷ xs) (suc i) (suc j) le =
    let rest = count_grows test xs i j (omega (arith, le)) in
    let one : ℕ = if test x then 1 else 0 in
    let first : count_by test (x ∷ take i xs) ≡ one + count_by test (take i xs) = sum_by-cons (λ y. if test y then 1 else 0) x (take i xs) in
    let second : count_by test (x ∷ take j xs) ≡ one + count_by test (take j xs) = sum_by-cons (λ y. if test y then 1 else 0) x (take j xs) in
    subst (λ n. n ≤ count_by test (x ∷ take j xs)) (sym first) (subst (λ n. one + count_by test (take i xs) ≤ n) (sym second) (omega (arith, rest)))

pub take_short : {A : Type 0} (n : ℕ) (xs : List A) → length (take n xs) ≤ length xs
take_short zero [] = omega arith
take_short zero (x ∷ xs) = omega arith
take_short (suc n) [] = omega arith
take_short (suc n) (x ∷ xs) = omega (arith, take_short n xs)

-- ---- turns for each instruction

-- the most repeats in one another that are in these blocks
abbrev pub most_repeats : List Block → ℕ
most_repeats [] = 0
most_repeats (block ∷ blocks) = max (repeats block.body) (most_repeats blocks)

pub repeats_within : (blocks : List Block) (number : ℕ) (block : Block) → slice_get blocks number ≡ Some block → repeats block.body ≤ most_repeats blocks
repeats_within [] number block at = absurd (none-some block at)
repeats_within (first ∷ blocks) zero block at =
    let same = ap (λ (b : Block). repeats b.body) (same_Some first block at) in omega (arith, same)
repeats_within (first ∷ blocks) (suc number) block at =
    let rest = repeats_within blocks number block at in omega (arith, rest)
