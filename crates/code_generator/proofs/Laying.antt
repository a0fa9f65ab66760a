-- The cells of what is passed to a routine are those of its parameters: one behind the other, in the order in which the
-- parameters are declared.
use Rattle.code_generator.proofs.Words.{◌≡◌, ℕ, zero, suc, ◌+◌, List, [], ◌∷◌, ◌++◌, length, map, take, drop, Some, None, refl, sym, ap, ◌∙◌, subst, arith}
use Rattle.code_generator.proofs.Words.{Bool, true, false, length-append, append_assoc, eq-eqb, if◌then◌else◌, nat_eq, slice_get, option_and_then}
use Rattle.code_generator.proofs.Words.{drop-append_seam, false≢true, eqb-true, length-map, none-some, same_Some, cells_of, Variable, VariableKind}
use Rattle.code_generator.proofs.Words.{is_variable_kind, roots_where, Argument, OfValue, OfRow, OfPlace, Cell, cells_where, is_parameter_of, slot_cells}
use Rattle.std.proofs.Math.Seq.{take-append_seam}
use Rattle.std.proofs.lemmas.Bool.{false_from_ne_true}
use Rattle.typed_tree.specs.declared.tree.VariableKind.TheVariants as kinds
use Rattle.typed_tree.specs.WellFormed.{formal_of, is_value_kind}
use Rattle.meaning.specs.Meaning.{place_for, place_passed}
use Rattle.code_generator.proofs.Cells.{where_cons}
use Rattle.code_generator.proofs.Passing.{AllFitted, Fitted}
use Rattle.code_generator.proofs.Rows.{length-cells_of}
use Rattle.code_generator.proofs.Setting.{Setting, outline}

-- a value parameter is no variable parameter
pub no_reference : (kind : VariableKind) → is_value_kind kind ≡ true → is_variable_kind kind ≡ false
no_reference kinds.ValueParameter e = refl
no_reference kinds.Local e = absurd (false≢true e)
no_reference kinds.VariableParameter e = absurd (false≢true e)
no_reference kinds.Result e = absurd (false≢true e)

module _ (g : Setting) (number : ℕ) where
  abbrev test : Variable → Bool
  test = is_parameter_of number

  -- what is passed has as many cells as its parameter
  pub fitted_length : (v : Variable) (argument : Argument) (first : List Cell) → Fitted g v argument first → length first ≡ slot_cells g.tree.types v
  fitted_length v (OfValue w) first f =
      let slot : slot_cells g.tree.types v ≡ cells_of g.tree.types v.type_id =
      ap (λ b. if b then 1 else cells_of g.tree.types v.type_id) (no_reference v.kind f.0) in
      let one = ap length (g.known.scalars g.tree.types v.type_id f.1) in
      let cells = ap length f.3 in
      let many = g.known.cells g.tree.types v.type_id in
      omega (arith, slot, one, cells, many)
  fitted_length v (OfRow vs) first f =
      let slot : slot_cells g.tree.types v ≡ cells_of g.tree.types v.type_id =
      ap (λ b. if b then 1 else cells_of g.tree.types v.type_id) (no_reference v.kind f.0) in
      let cells = ap length f.3 in
      let many = length-cells_of vs in
      omega (arith, slot, cells, many, f.1)
  fitted_length v (OfPlace None) first f = absurd f
  fitted_length v (OfPlace (Some p)) first f =
      let slot : slot_cells g.tree.types v ≡ 1 = ap (λ b. if b then 1 else cells_of g.tree.types v.type_id) f.1 in
      let cells = ap length f.3 in
      omega (arith, slot, cells)

  -- the next variable takes what is passed first if it is a parameter
  abbrev pub Takes : Bool → Variable → List Argument → List Cell → (List Argument → List Cell → Type 0) → Type 0
  Takes true v arguments cells others =
      (argument : Argument) × (rest : List Argument) × (first : List Cell) × (behind : List Cell) × (arguments ≡ argument ∷ rest)
      × (cells ≡ first ++ behind) × Fitted g v argument first × others rest behind
  Takes false v arguments cells others = others arguments cells

  -- the parameters among these variables take just what is passed
  abbrev pub Laid : List Variable → List Argument → List Cell → Type 0
  Laid [] arguments cells = (arguments ≡ []) × (cells ≡ [])
  Laid (v ∷ variables) arguments cells = Takes (test v) v arguments cells (Laid variables)

  laid_none : (arguments : List Argument) (cells : List Cell) (position : ℕ) → length arguments ≡ 0 → AllFitted g number position arguments cells
      → (arguments ≡ []) × (cells ≡ [])
  laid_none [] cells position none fitted = (refl, fitted)
  laid_none (argument ∷ arguments) cells position none fitted = absurd (omega arith)

  abbrev LaidFrom : ℕ → List Variable → Type 0
  LaidFrom k variables =
      (position : ℕ) (arguments : List Argument) (cells : List Cell)
      → ((i : ℕ) (v : Variable) → slice_get variables i ≡ Some v → slice_get g.tree.variables.items (k + i) ≡ Some v)
      → ((i : ℕ) → formal_of (outline g) number (position + i)
      ≡ option_and_then (λ root. slice_get g.tree.variables.items root) (slice_get (roots_where test k variables) i))
      → length arguments ≡ length (roots_where test k variables) → AllFitted g number position arguments cells → Laid variables arguments cells

  pub laid_from : (k : ℕ) (variables : List Variable) → LaidFrom k variables
  laid_from k [] position arguments cells there formals long fitted = laid_none arguments cells position long fitted
  laid_from k (v ∷ variables) position arguments cells there formals long fitted =
      by (laid_from (suc k) variables) (test v) refl formals long
    where
      next_there : (i : ℕ) (w : Variable) → slice_get variables i ≡ Some w → slice_get g.tree.variables.items (suc k + i) ≡ Some w
      next_there i w at = let e : k + suc i ≡ suc k + i = omega arith in ap (slice_get g.tree.variables.items) (sym e) ∙ there (suc i) w at

      taken : LaidFrom (suc k) variables → (arguments : List Argument) → AllFitted g number position arguments cells
          → ((i : ℕ) → formal_of (outline g) number (position + i)
          ≡ option_and_then (λ root. slice_get g.tree.variables.items root) (slice_get (k ∷ roots_where test (suc k) variables) i))
          → length arguments ≡ suc (length (roots_where test (suc k) variables)) → Takes true v arguments cells (Laid variables)
      taken recur [] fitted formals long = absurd (omega arith)
      taken recur (argument ∷ rest) fitted formals long =
          let here : k + 0 ≡ k = omega arith in
          let start : position + 0 ≡ position = omega arith in
          let same : Some fitted.0 ≡ Some v = sym fitted.1 ∙ ap (formal_of (outline g) number) (sym start) ∙ formals 0
          ∙ ap (slice_get g.tree.variables.items) (sym here) ∙ there 0 v refl in
          let formal : fitted.0 ≡ v = same_Some fitted.0 v same in (
            argument,
            rest,
            fitted.2,
            fitted.3,
            refl,
            fitted.4,
            subst (λ w. Fitted g w argument fitted.2) formal fitted.5,
            recur (suc position) rest fitted.3 next_there
                (λ i. let e : position + suc i ≡ suc position + i = omega arith in ap (formal_of (outline g) number) (sym e) ∙ formals (suc i))
                (omega arith) fitted.6,
          )

      by : LaidFrom (suc k) variables → (b : Bool) → test v ≡ b
          → ((i : ℕ) → formal_of (outline g) number (position + i)
          ≡ option_and_then (λ root. slice_get g.tree.variables.items root)
          (slice_get (if test v then k ∷ roots_where test (suc k) variables else roots_where test (suc k) variables) i))
          → length arguments ≡ length (if test v then k ∷ roots_where test (suc k) variables else roots_where test (suc k) variables)
          → Takes (test v) v arguments cells (Laid variables)
      by recur true is formals long =
          subst (λ b. Takes b v arguments cells (Laid variables)) (sym is)
          (taken recur arguments fitted
          (λ i. formals i ∙ ap (λ b. option_and_then (λ root. slice_get g.tree.variables.items root)
          (slice_get (if b then k ∷ roots_where test (suc k) variables else roots_where test (suc k) variables) i)) is)
          (long ∙ ap (λ b. length (if b then k ∷ roots_where test (suc k) variables else roots_where test (suc k) variables)) is))
      by recur false is formals long =
          subst (λ b. Takes b v arguments cells (Laid variables)) (sym is)
          (recur position arguments cells next_there
          (λ i. formals i ∙ ap (λ b. option_and_then (λ root. slice_get g.tree.variables.items root)
          (slice_get (if b then k ∷ roots_where test (suc k) variables else roots_where test (suc k) variables) i)) is)
          (long ∙ ap (λ b. length (if b then k ∷ roots_where test (suc k) variables else roots_where test (suc k) variables)) is) fitted)

  -- ---- what is told of each cell of a parameter

  abbrev pub marked_by : {A : Type 0} → (Variable → Cell → A) → Bool → Variable → List Cell → (List Cell → List A) → List A
  marked_by mark true v cells others = map (mark v) (take (slot_cells g.tree.types v) cells) ++ others (drop (slot_cells g.tree.types v) cells)
  marked_by mark false v cells others = others cells

  abbrev pub marked : {A : Type 0} → (Variable → Cell → A) → List Variable → List Cell → List A
  marked mark [] cells = []
  marked mark (v ∷ variables) cells = marked_by mark (test v) v cells (marked mark variables)

  -- of those that a parameter takes
  pub marked_first : {A : Type 0} (mark : Variable → Cell → A) (v : Variable) (others : List Cell → List A) (argument : Argument) (first behind : List Cell)
      → Fitted g v argument first → marked_by mark true v (first ++ behind) others ≡ map (mark v) first ++ others behind
  marked_first mark v others argument first behind f =
      let long = fitted_length v argument first f in
      ap (λ n. map (mark v) (take n (first ++ behind)) ++ others (drop n (first ++ behind))) (sym long)
      ∙ ap (λ l. map (mark v) l ++ others (drop (length first) (first ++ behind))) (take-append_seam first behind)
      ∙ ap (λ l. map (mark v) first ++ others l) (drop-append_seam first behind)

  abbrev MarkedLong : {A : Type 0} → (Variable → Cell → A) → List Variable → Type 0
  MarkedLong mark variables =
      (arguments : List Argument) (cells : List Cell) → Laid variables arguments cells
      → (length (marked mark variables cells) ≡ length cells) × (length cells ≡ cells_where g.tree.types test variables)

  pub marked_long : {A : Type 0} (mark : Variable → Cell → A) (variables : List Variable) → MarkedLong mark variables
  marked_long mark [] arguments cells l = let none = ap length l.1 in (omega (arith, none), none)
  marked_long {A} mark (v ∷ variables) arguments cells l = by (marked_long mark variables) (test v) refl l
    where
      by : MarkedLong mark variables → (b : Bool) → test v ≡ b → Takes (test v) v arguments cells (Laid variables)
          → (length (marked_by mark (test v) v cells (marked mark variables)) ≡ length cells)
          × (length cells ≡ cells_where g.tree.types test (v ∷ variables))
      by recur true is l =
          let t = subst (λ b. Takes b v arguments cells (Laid variables)) is l in
          let rest = recur t.1 t.3 t.7 in
          let whole : marked_by mark (test v) v cells (marked mark variables) ≡ map (mark v) t.2 ++ marked mark variables t.3 =
          ap (λ b. marked_by mark b v cells (marked mark variables)) is ∙ ap (λ cs. marked_by mark true v cs (marked mark variables)) t.5
          ∙ marked_first mark v (marked mark variables) t.0 t.2 t.3 t.6 in
          let own : (if test v then slot_cells g.tree.types v else 0) ≡ slot_cells g.tree.types v = ap (λ b. if b then slot_cells g.tree.types v else 0) is in
          let cells_long = ap length t.5 ∙ length-append t.2 t.3 in
          let marks_long = ap length whole ∙ length-append (map (mark v) t.2) (marked mark variables t.3) in (
            omega (arith, cells_long, marks_long, rest.0, length-map t.2 (mark v)),
            omega (arith, cells_long, rest.1, own, where_cons g.tree.types test v variables, fitted_length v t.0 t.2 t.6),
          )
      by recur false is l =
          let t = subst (λ b. Takes b v arguments cells (Laid variables)) is l in
          let rest = recur arguments cells t in
          let whole : marked_by mark (test v) v cells (marked mark variables) ≡ marked mark variables cells =
          ap (λ b. marked_by mark b v cells (marked mark variables)) is in
          let own : (if test v then slot_cells g.tree.types v else 0) ≡ 0 = ap (λ b. if b then slot_cells g.tree.types v else 0) is in
          (omega (arith, ap length whole, rest.0), omega (arith, rest.1, own, where_cons g.tree.types test v variables))

  -- ---- one parameter

  -- where a parameter finds what is passed to it
  pub record Found {A : Type 0} (mark : Variable → Cell → A) (k : ℕ) (variables : List Variable) (arguments : List Argument) (cells : List Cell) (i : ℕ)
      (v : Variable) : Type 0 where
    pub argument : Argument
    pub front : List Cell
    pub first : List Cell
    pub behind : List Cell
    pub split : cells ≡ front ++ (first ++ behind)
    pub fitted : Fitted g v argument first
    pub front_is : length front ≡ cells_where g.tree.types test (take i variables)
    pub place_is : place_for (k + i) (roots_where test k variables) arguments ≡ place_passed argument
    pub marks_front : List A
    pub marks_behind : List A
    pub marks : marked mark variables cells ≡ marks_front ++ (map (mark v) first ++ marks_behind)
    pub marks_front_is : length marks_front ≡ length front

  place_first : (root : ℕ) (roots : List ℕ) (argument : Argument) (arguments : List Argument)
      → place_for root (root ∷ roots) (argument ∷ arguments) ≡ place_passed argument
  place_first root roots argument arguments =
      ap (λ b. if b then place_passed argument else place_for root roots arguments) (eq-eqb root root refl)

  place_later : (root other : ℕ) (roots : List ℕ) (argument : Argument) (arguments : List Argument) → (other ≡ root → ⊥)
      → place_for root (other ∷ roots) (argument ∷ arguments) ≡ place_for root roots arguments
  place_later root other roots argument arguments differ =
      ap (λ b. if b then place_passed argument else place_for root roots arguments)
      (false_from_ne_true (nat_eq other root) (λ e. differ (eqb-true other root e)))

  pub found : {A : Type 0} (mark : Variable → Cell → A) (k : ℕ) (variables : List Variable) (arguments : List Argument) (cells : List Cell) (i : ℕ)
      (v : Variable) → Laid variables arguments cells → slice_get variables i ≡ Some v → test v ≡ true → Found mark k variables arguments cells i v
  found mark k [] arguments cells i v l at holds = absurd (none-some v at)
  found {A} mark k (w ∷ variables) arguments cells zero v l at holds =
      let same : w ≡ v = same_Some w v at in
      let is : test w ≡ true = ap test same ∙ holds in
      let t = subst (λ b. Takes b w arguments cells (Laid variables)) is l in
      let here : k + 0 ≡ k = omega arith in
      record {
        argument = t.0;
        front = [];
        first = t.2;
        behind = t.3;
        split = t.5;
        fitted = subst (λ u. Fitted g u t.0 t.2) same t.6;
        front_is = refl;
        place_is = ap (λ n. place_for n (roots_where test k (w ∷ variables)) arguments) here
            ∙ ap (λ b. place_for k (if b then k ∷ roots_where test (suc k) variables else roots_where test (suc k) variables) arguments) is
            ∙ ap (place_for k (k ∷ roots_where test (suc k) variables)) t.4 ∙ place_first k (roots_where test (suc k) variables) t.0 t.1;
        marks_front = [];
        marks_behind = marked mark variables t.3;
        marks = ap (λ b. marked_by mark b w cells (marked mark variables)) is ∙ ap (λ cs. marked_by mark true w cs (marked mark variables)) t.5
            ∙ marked_first mark w (marked mark variables) t.0 t.2 t.3 t.6
            ∙ ap (λ (u : Variable). map (mark u) t.2 ++ marked mark variables t.3) same;
        marks_front_is = refl;
      }
  found {A} mark k (w ∷ variables) arguments cells (suc i) v l at holds =
      by (λ rest behind t. found mark (suc k) variables rest behind i v t at holds) (test w) refl l
    where
      further : k + suc i ≡ suc k + i
      further = omega arith

      by : ((rest : List Argument) (behind : List Cell) → Laid variables rest behind → Found mark (suc k) variables rest behind i v) → (b : Bool) → test w ≡ b
          → Takes (test w) w arguments cells (Laid variables) → Found mark k (w ∷ variables) arguments cells (suc i) v
      by recur true is l =
          let t = subst (λ b. Takes b w arguments cells (Laid variables)) is l in
          let r = recur t.1 t.3 t.7 in
          let own : (if test w then slot_cells g.tree.types w else 0) ≡ slot_cells g.tree.types w = ap (λ b. if b then slot_cells g.tree.types w else 0) is in
          record {
            argument = r.argument;
            front = t.2 ++ r.front;
            first = r.first;
            behind = r.behind;
            split = t.5 ∙ ap (λ l. t.2 ++ l) r.split ∙ sym (append_assoc t.2 r.front (r.first ++ r.behind));
            fitted = r.fitted;
            front_is = omega (
              arith,
              length-append t.2 r.front,
              r.front_is,
              own,
              where_cons g.tree.types test w (take i variables),
              fitted_length w t.0 t.2 t.6,
            );
            place_is = ap (λ n. place_for n (roots_where test k (w ∷ variables)) arguments) further
                ∙ ap (λ b. place_for (suc k + i) (if b then k ∷ roots_where test (suc k) variables else roots_where test (suc k) variables) arguments) is
                ∙ ap (place_for (suc k + i) (k ∷ roots_where test (suc k) variables)) t.4
                ∙ place_later (suc k + i) k (roots_where test (suc k) variables) t.0 t.1 (λ e. let no : ⊥ = omega (arith, e) in no)
                ∙ r.place_is;
            marks_front = map (mark w) t.2 ++ r.marks_front;
            marks_behind = r.marks_behind;
            marks = ap (λ b. marked_by mark b w cells (marked mark variables)) is ∙ ap (λ cs. marked_by mark true w cs (marked mark variables)) t.5
                ∙ marked_first mark w (marked mark variables) t.0 t.2 t.3 t.6 ∙ ap (λ l. map (mark w) t.2 ++ l) r.marks
                ∙ sym (append_assoc (map (mark w) t.2) r.marks_front (map (mark v) r.first ++ r.marks_behind));
            marks_front_is = omega (
              arith,
              length-append (map (mark w) t.2) r.marks_front,
              length-append t.2 r.front,
              r.marks_front_is,
              length-map t.2 (mark w),
            );
          }
      by recur false is l =
          let t = subst (λ b. Takes b w arguments cells (Laid variables)) is l in
          let r = recur arguments cells t in
          let own : (if test w then slot_cells g.tree.types w else 0) ≡ 0 = ap (λ b. if b then slot_cells g.tree.types w else 0) is in
          record {
            argument = r.argument;
            front = r.front;
            first = r.first;
            behind = r.behind;
            split = r.split;
            fitted = r.fitted;
            front_is = omega (arith, r.front_is, own, where_cons g.tree.types test w (take i variables));
            place_is = ap (λ n. place_for n (roots_where test k (w ∷ variables)) arguments) further
                ∙ ap (λ b. place_for (suc k + i) (if b then k ∷ roots_where test (suc k) variables else roots_where test (suc k) variables) arguments) is
                ∙ r.place_is;
            marks_front = r.marks_front;
            marks_behind = r.marks_behind;
            marks = ap (λ b. marked_by mark b w cells (marked mark variables)) is ∙ r.marks;
            marks_front_is = r.marks_front_is;
          }

-- what is laid is as long as the parameters
pub laid_cells : (g : Setting) (number : ℕ) (variables : List Variable) (arguments : List Argument) (cells : List Cell)
    → Laid g number variables arguments cells → length cells ≡ cells_where g.tree.types (is_parameter_of number) variables
laid_cells g number variables arguments cells laid = (marked_long g number (λ v cell. cell) variables arguments cells laid).1
