-- Frames as their variables are counted one by one, and where each variable lies.
use Rattle.std.proofs.Common.{◌≡◌, ℕ, ◌+◌, ◌-◌, ◌<◌, ◌≤◌, Bool, true, false, ◌&&◌, nat_eq, List, [], ◌∷◌, ◌++◌, if◌then◌else◌, drop, get_or, length, take}
use Rattle.std.proofs.Common.{refl, ap, sym, subst, ◌∙◌, append_assoc, arith}
use Rattle.std.specs.Prelude.{filter, not, slice_set, sum_by, suc, zero}
use Rattle.std.proofs.lemmas.List.Sums.{sum_by-cons}
use Rattle.std.proofs.lemmas.Bool.{eqb-true, eqb-false}
use Rattle.std.proofs.lemmas.List.{drop_more}
use Rattle.types.specs.Forms.{Form}
use Rattle.typed_tree.specs.declared.tree.Tree.{Tree}
use Rattle.typed_tree.specs.declared.tree.Variable.{Variable}
use Rattle.typed_tree.specs.WellFormed.{is_parameter_kind, is_variable_kind}
use Rattle.code_scheme.specs.declared.frame.Frame.{Frame}
use Rattle.code_scheme.specs.declared.home.Home.{Home}
use Rattle.code_scheme.specs.Frames.{AreCounted, frame_at, frame_of, no_frame, start_with}
use Rattle.code_scheme.specs.Scopes.{block_level, cells_where, home_of, homes_from, homes_of, is_other_of, is_parameter_of, offset, parameter_cells}
use Rattle.code_scheme.specs.Scopes.{slot_cells, start_of}
use Rattle.code_scheme.specs.Sizes.{capped}

-- an empty frame behind others changes none
pub at_room : (frames : List Frame) (block : ℕ) → frame_at (frames ++ (no_frame ∷ [])) block ≡ frame_at frames block
at_room [] zero = refl
at_room [] (suc block) = refl
at_room (frame ∷ frames) zero = refl
at_room (frame ∷ frames) (suc block) = at_room frames block

-- a frame in the place of another, and the others
at_own : (frames : List Frame) (i : ℕ) (frame : Frame) → i < length frames → frame_at (slice_set frames i frame) i ≡ frame
at_own [] i frame inside = absurd (omega (arith, inside))
at_own (first ∷ frames) zero frame inside = refl
at_own (first ∷ frames) (suc i) frame inside = at_own frames i frame (omega (arith, inside))

at_other : (frames : List Frame) (i block : ℕ) (frame : Frame) → 1 ≤ (i - block) + (block - i)
    → frame_at (slice_set frames i frame) block ≡ frame_at frames block
at_other [] i block frame apart = refl
at_other (first ∷ frames) zero zero frame apart = absurd (omega (arith, apart))
at_other (first ∷ frames) zero (suc block) frame apart = refl
at_other (first ∷ frames) (suc i) zero frame apart = refl
at_other (first ∷ frames) (suc i) (suc block) frame apart = at_other frames i block frame (omega (arith, apart))

at_get : (frames : List Frame) (i : ℕ) (d : Frame) → i < length frames → get_or frames i d ≡ frame_at frames i
at_get [] i d inside = absurd (omega (arith, inside))
at_get (first ∷ frames) zero d inside = refl
at_get (first ∷ frames) (suc i) d inside = at_get frames i d (omega (arith, inside))

-- the cells of those variables of which a test holds, with one more
sum_push : {X : Type 0} (f : X → ℕ) (xs : List X) (x : X) → sum_by f (xs ++ (x ∷ [])) ≡ sum_by f xs + f x
sum_push f [] x = sum_by-cons f x [] ∙ omega arith
sum_push f (y ∷ xs) x = omega (arith, sum_push f xs x, sum_by-cons f y xs, sum_by-cons f y (xs ++ (x ∷ [])))

sum_one : {X : Type 0} (f : X → ℕ) (b : Bool) (x : X) (xs : List X) → sum_by f (if b then x ∷ xs else xs) ≡ (if b then f x else 0) + sum_by f xs
sum_one f true x xs = sum_by-cons f x xs
sum_one f false x xs = omega arith

pub where_push : (types : List Form) (test : Variable → Bool) (variables : List Variable) (variable : Variable)
    → cells_where types test (variables ++ (variable ∷ [])) ≡ cells_where types test variables +
    (if test variable then slot_cells types variable else 0)
where_push types test [] variable = sum_one (slot_cells types) (test variable) variable [] ∙ omega arith
where_push types test (first ∷ variables) variable =
    omega (
      arith,
      sum_one (slot_cells types) (test first) first (filter test (variables ++ (variable ∷ []))),
      sum_one (slot_cells types) (test first) first (filter test variables),
      where_push types test variables variable,
    )

abbrev counted : ℕ → ℕ → Frame
counted parameters others = record { parameters = capped parameters; others = capped others }

same_frame : (a b c d : ℕ) → a ≡ c → b ≡ d → counted a b ≡ counted c d
same_frame a b c d first second = ap (λ n. counted n b) first ∙ ap (counted c) second

-- a variable of the block itself goes to its parameters or to the others
own_parameter : (own kind : Bool) → own ≡ true → (n cells : ℕ) → n + (if own && kind then cells else 0) ≡ (if kind then n + cells else n)
own_parameter true true is n cells = refl
own_parameter true false is n cells = omega arith
own_parameter false kind is n cells = absurd (cc)

own_other : (own kind : Bool) → own ≡ true → (n cells : ℕ) → n + (if own && not kind then cells else 0) ≡ (if kind then n else n + cells)
own_other true true is n cells = omega arith
own_other true false is n cells = refl
own_other false kind is n cells = absurd (cc)

merged : (kind : Bool) (p o cells : ℕ)
    → (if kind then record { parameters = capped (capped p + cells); others = capped o } else
    record { parameters = capped p; others = capped (capped o + cells) }) ≡ counted (if kind then p + cells else p) (if kind then o else o + cells)
merged true p o cells = ap (λ n. record { parameters = n; others = capped o }) (omega arith)
merged false p o cells = ap (λ n. record { parameters = capped p; others = n }) (omega arith)

-- and one of another block to neither
not_own : (own kind : Bool) → own ≡ false → (n cells : ℕ) → n + (if own && kind then cells else 0) ≡ n
not_own true kind is n cells = absurd (cc)
not_own false kind is n cells = omega arith

abbrev pub with_more : Frame → Bool → ℕ → Frame
with_more frame kind cells =
    if kind then record { parameters = capped (frame.parameters + cells); others = frame.others } else
    record { parameters = frame.parameters; others = capped (frame.others + cells) }

module _ (types : List Form) (variables : List Variable) (variable : Variable) (room : List Frame) (frame : Frame)
    (counts : AreCounted types variables room) (inside : variable.block < length room) (is : frame ≡ get_or room variable.block frame) where
  abbrev kind : Bool
  kind = is_parameter_kind variable.kind

  abbrev cells : ℕ
  cells = slot_cells types variable

  abbrev more : List Frame
  more = slice_set room variable.block (with_more frame kind cells)

  counted_own : nat_eq variable.block variable.block ≡ true → frame_at more variable.block ≡ frame_of types (variables ++ (variable ∷ [])) variable.block
  counted_own own =
      let p = cells_where types (is_parameter_of variable.block) variables in
      let o = cells_where types (is_other_of variable.block) variables in
      at_own room variable.block (with_more frame kind cells) inside
      ∙ ap (λ f. with_more f kind cells) (is ∙ at_get room variable.block frame inside ∙ counts variable.block)
      ∙ merged kind p o cells
      ∙ sym (same_frame _ _ _ _ (where_push types (is_parameter_of variable.block) variables variable ∙ own_parameter _ kind own p cells)
      (where_push types (is_other_of variable.block) variables variable ∙ own_other _ kind own o cells))

  counted_other : (block : ℕ) → nat_eq variable.block block ≡ false → 1 ≤ (variable.block - block) + (block - variable.block)
      → frame_at more block ≡ frame_of types (variables ++ (variable ∷ [])) block
  counted_other block other apart =
      let p = cells_where types (is_parameter_of block) variables in
      let o = cells_where types (is_other_of block) variables in
      at_other room variable.block block (with_more frame kind cells) apart
      ∙ counts block
      ∙ sym (same_frame _ _ _ _ (where_push types (is_parameter_of block) variables variable ∙ not_own _ kind other p cells)
      (where_push types (is_other_of block) variables variable ∙ not_own _ (not kind) other o cells))

  counted_at : (block : ℕ) (own : Bool) → nat_eq variable.block block ≡ own → frame_at more block ≡ frame_of types (variables ++ (variable ∷ [])) block
  counted_at block true own =
      let same = eqb-true variable.block block own in
      subst (λ b. frame_at more b ≡ frame_of types (variables ++ (variable ∷ [])) b) same
      (counted_own (subst (λ b. nat_eq variable.block b ≡ true) (sym same) own))
  counted_at block false own = counted_other block own (omega (arith, eqb-false variable.block block own))

  pub counted_more : AreCounted types (variables ++ (variable ∷ [])) more
  counted_more block = counted_at block (nat_eq variable.block block) refl

-- frames that are the same hold the same variables
pub counted_as : (types : List Form) (variables : List Variable) (frames room : List Frame) → AreCounted types variables frames
    → ((other : ℕ) → frame_at room other ≡ frame_at frames other) → AreCounted types variables room
counted_as types variables frames room counts same block = same block ∙ counts block

-- where a variable begins
start_is : (kind : Bool) (p o q : ℕ) → offset (4 + (if kind then capped p else capped q + capped o)) ≡ offset (4 + (if kind then p else q + o))
start_is true p o q = omega arith
start_is false p o q = omega arith

pub start_counted : (tree : Tree) (before all : List Frame) (i : ℕ) (variable : Variable) → AreCounted tree.types (take i tree.variables.items) before
    → AreCounted tree.types tree.variables.items all → start_with before all variable ≡ offset (start_of tree i variable)
start_counted tree before all i variable here there =
    let kind = is_parameter_kind variable.kind in
    let vs = take i tree.variables.items in
    let p = cells_where tree.types (is_parameter_of variable.block) vs in
    let o = cells_where tree.types (is_other_of variable.block) vs in
    ap (λ (f : Frame). offset (4 + (if kind then f.parameters else (frame_at all variable.block).parameters + f.others))) (here variable.block)
    ∙ ap (λ (f : Frame). offset (4 + (if kind then capped p else f.parameters + capped o))) (there variable.block)
    ∙ start_is kind p o (parameter_cells tree variable.block)

-- the homes of variables, of which the next has the next root
next_is : (n : ℕ) → suc n ≡ n + 1
next_is n = omega arith

pub homes_next : (tree : Tree) (i : ℕ) (variable : Variable) (variables : List Variable)
    → homes_from tree i (variable ∷ variables) ≡ home_of tree i variable ∷ homes_from tree (i + 1) variables
homes_next tree i variable variables = ap (λ n. home_of tree i variable ∷ homes_from tree n variables) (next_is i)

-- a loop over variables, one further
pub one_home : (tree : Tree) (homes pushed : List Home) (before seen all : List Frame) (items : List Variable) (i : ℕ) (d : Variable) (home : Home) (start : ℕ)
    → i < length items → items ≡ tree.variables.items → AreCounted tree.types (take i items) before → AreCounted tree.types tree.variables.items all
    → seen ≡ before → start ≡ start_with seen all (get_or items i d)
    → home ≡ record {
      level = block_level tree (get_or items i d).block;
      start = start;
      refers = is_variable_kind (get_or items i d).kind;
    } → pushed ≡ homes ++ (home ∷ []) → homes ++ homes_from tree i (drop i items) ≡ homes_of tree
    → pushed ++ homes_from tree (i + 1) (drop (i + 1) items) ≡ homes_of tree
one_home tree homes pushed before seen all items i d home start inside same here there saw begins is grown so_far =
    let v = get_or items i d in
    let rest = drop (i + 1) items in
    let counts = subst (λ vs. AreCounted tree.types (take i vs) before) same here in
    let at = is
    ∙ ap (λ n. record { level = block_level tree v.block; start = n; refers = is_variable_kind v.kind })
    (begins ∙ ap (λ fs. start_with fs all v) saw ∙ start_counted tree before all i v counts there) in
    ap (λ hs. hs ++ homes_from tree (i + 1) rest) grown
    ∙ append_assoc homes (home ∷ []) (homes_from tree (i + 1) rest)
    ∙ ap (λ x. homes ++ (x ∷ homes_from tree (i + 1) rest)) at
    ∙ sym (ap (λ hs. homes ++ hs) (ap (homes_from tree i) (drop_more items i d inside) ∙ homes_next tree i v rest))
    ∙ so_far
