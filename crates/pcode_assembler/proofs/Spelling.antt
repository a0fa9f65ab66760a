-- The text of a code says that code.
use Rattle.std.proofs.Common.{◌≡◌, ℕ, ◌+◌, ◌<◌, ◌≤◌, Bool, true, false, ◌&&◌, ◌||◌, nat_eq, nat_le, nat_lt, List, [], ◌∷◌, ◌++◌, length, map}
use Rattle.std.proofs.Common.{Option, Some, None, refl, sym, ap, subst, ◌∙◌, arith, append_assoc}
use Rattle.std.specs.Bool.{if◌then◌else◌}
use Rattle.std.specs.List.{list_all, list_any, range_with_len}
use Rattle.std.specs.Option.{option_map_or}
use Rattle.std.proofs.lemmas.Bool.{and_from, and_parts, eq-eqb, lt-ltb}
use Rattle.std.proofs.lemmas.Bool.Decides.{nat_tests}
use Rattle.std.proofs.lemmas.List.{append-nil}
use Rattle.text_lines.proofs.Parting.{some_is}
use Rattle.pcode_assembler.specs.declared.above.Above.{Above}
use Rattle.pcode_assembler.specs.declared.code.Point.{Point}
use Rattle.pcode_assembler.specs.declared.code.Site.{Site}
use Rattle.pcode_assembler.specs.declared.content.Content.{Content}
use Rattle.pcode_assembler.specs.declared.content.Content.TheVariants as content
use Rattle.pcode_assembler.specs.declared.instr.Instr.{Instr}
use Rattle.pcode_assembler.specs.declared.instr.Instr.TheVariants as instr
use Rattle.pcode_assembler.specs.declared.labels.Label.{Label}
use Rattle.pcode_assembler.specs.Bounds.{in_bounds}
use Rattle.pcode_assembler.specs.Contents.{are_right, body_lines, going_to, goes_to, instruction_rows, is_right, label_rows}
use Rattle.pcode_assembler.specs.Contents.{named, place_or, point_line, point_rows, rows, site_line, site_rows}
use Rattle.pcode_assembler.specs.Lines.{fits, has_numbers, is_id_or_none, is_place, is_spellable, line_of}
use Rattle.pcode_assembler.specs.Text.{Seen, below, first_label, is_followed, most, reaches}
use Rattle.pcode_assembler.specs.Text.{stands_at}
use Rattle.pcode_assembler.specs.Writable.{check_site, is_below, is_kind, jump_target, names_what_is_there, read_point}
use Rattle.pcode_assembler.specs.Writing.{have_numbers}
use Rattle.pcode_assembler.proofs.LabelLines.{id_from}
use Rattle.pcode_assembler.proofs.Labelled.{body_past, code_count, is_other, label_here}
use Rattle.pcode_assembler.proofs.Parting.{le_true}
use Rattle.pcode_assembler.proofs.Steps.{after}

-- ---- what fits

below_id : (bound : ℕ) (o : Option ℕ) → bound ≤ most → is_below bound o ≡ true → is_id_or_none o ≡ true
below_id bound None few is = refl
below_id bound (Some n) few is = grind (arith, nat_tests)

names_parts : (sites points count : ℕ) (i : Instr) → names_what_is_there sites points count i ≡ true
    → (is_below points (read_point i) ≡ true) × (is_below count (jump_target i) ≡ true) × (is_below sites (check_site i) ≡ true)
names_parts sites points count i is =
    let parts = and_parts (is_below points (read_point i)) (is_below count (jump_target i) && is_below sites (check_site i)) is in
    let rest = and_parts (is_below count (jump_target i)) (is_below sites (check_site i)) parts.1 in
    (parts.0, rest.0, rest.1)

spellable : (sites points count : ℕ) (i : Instr) → sites ≤ most → points ≤ most → count ≤ most → in_bounds i ≡ true
    → names_what_is_there sites points count i ≡ true → has_numbers i ≡ true → is_spellable i ≡ true
spellable sites points count i few_sites few_points few bounds names numbers =
    let parts = names_parts sites points count i names in
    and_from _ _ bounds (and_from _ _ (and_from _ _ (below_id count (jump_target i) few parts.1)
    (and_from _ _ (below_id sites (check_site i) few_sites parts.2) (below_id points (read_point i) few_points parts.0))) numbers)

pub all_spellable : (sites points count : ℕ) (xs : List Instr) → sites ≤ most → points ≤ most → count ≤ most → list_all in_bounds xs ≡ true
    → list_all (names_what_is_there sites points count) xs ≡ true → have_numbers xs ≡ true → list_all (λ i. fits (content.Instruction i)) xs ≡ true
all_spellable sites points count [] few_sites few_points few bounds names numbers = refl
all_spellable sites points count (i ∷ xs) few_sites few_points few bounds names numbers =
    let b = and_parts (in_bounds i) (list_all in_bounds xs) bounds in
    let n = and_parts (names_what_is_there sites points count i) (list_all (names_what_is_there sites points count) xs) names in
    let m = and_parts (has_numbers i) (have_numbers xs) numbers in
    and_from _ _ (spellable sites points count i few_sites few_points few b.0 n.0 m.0)
    (all_spellable sites points count xs few_sites few_points few b.1 n.1 m.1)

abbrev is_site_place : Site → Bool
is_site_place site = is_place site.line && is_place site.column

abbrev is_point_place : Point → Bool
is_point_place point = is_place point.line && is_place point.column

pub sites_fit : (xs : List Site) → list_all is_site_place xs ≡ true → list_all (λ (site : Site). is_kind site.kind) xs ≡ true
    → list_all fits (map site_line xs) ≡ true
sites_fit [] places kinds = refl
sites_fit (site ∷ xs) places kinds =
    let p = and_parts (is_site_place site) (list_all is_site_place xs) places in
    let k = and_parts (is_kind site.kind) (list_all (λ (site : Site). is_kind site.kind) xs) kinds in
    let ends = and_parts (is_place site.line) (is_place site.column) p.0 in
    and_from _ _ (and_from _ _ ends.0 (and_from _ _ ends.1 k.0)) (sites_fit xs p.1 k.1)

pub points_fit : (xs : List Point) → list_all is_point_place xs ≡ true → list_all fits (map point_line xs) ≡ true
points_fit [] places = refl
points_fit (point ∷ xs) places =
    let p = and_parts (is_point_place point) (list_all is_point_place xs) places in
    and_from _ _ p.0 (points_fit xs p.1)

-- ---- sites and points

pub right_append : (seen : Seen) (above : Above) (number here : ℕ) (xs ys : List Content) → are_right seen above number xs ≡ true
    → here ≡ number + length xs → are_right seen (after above xs) here ys ≡ true → are_right seen above number (xs ++ ys) ≡ true
right_append seen above number here [] ys right here_is rest =
    let same : here ≡ number = omega (arith, here_is) in
    subst (λ (n : ℕ). are_right seen above n ys ≡ true) same rest
right_append seen above number here (x ∷ xs) ys right here_is rest =
    let parts = and_parts (is_right seen above number x) (are_right seen (below above x) (number + 1) xs) right in
    and_from _ _ parts.0 (right_append seen (below above x) (number + 1) here xs ys parts.1 (omega (arith, here_is)) rest)

rows_append : {A : Type 0} (row : Above → Content → List A) (above : Above) (xs ys : List Content)
    → rows row above (xs ++ ys) ≡ rows row above xs ++ rows row (after above xs) ys
rows_append row above [] ys = refl
rows_append row above (x ∷ xs) ys =
    ap (λ more. row above x ++ more) (rows_append row (below above x) xs ys)
    ∙ sym (append_assoc (row above x) (rows row (below above x) xs) (rows row (after (below above x) xs) ys))

-- what a line stands below that has so many sites and points above it, and so many instructions
pub record StandsBelow (above : Above) (sites points instructions : ℕ) : Type 0 where
  pub sites_are : above.sites ≡ sites
  pub points_are : above.points ≡ points
  pub instructions_are : above.instructions ≡ instructions
  pub part_is : above.part ≤ 2

room : (n : ℕ) → n < most → nat_lt n most ≡ true
room n few = lt-ltb n most few

pub sites_right : (seen : Seen) (above : Above) (number : ℕ) (xs : List Site) → above.sites + length xs ≤ most → above.part ≤ 0
    → are_right seen above number (map site_line xs) ≡ true
sites_right seen above number [] few part = refl
sites_right seen above number (site ∷ xs) few part =
    and_from _ _ (and_from _ _ (le_true above.part 0 part) (rw (room above.sites (omega (arith, few))) refl))
    (sites_right seen (below above (site_line site)) (number + 1) xs (omega (arith, few)) (omega arith))

pub sites_after : (above : Above) (xs : List Site) → (above.part ≤ 0)
    → (StandsBelow (after above (map site_line xs)) (above.sites + length xs) above.points above.instructions) × ((after above (map site_line xs)).part ≤ 0)
sites_after above [] part = (record { sites_are = omega arith; points_are = refl; instructions_are = refl; part_is = omega (arith, part) }, part)
sites_after above (site ∷ xs) part =
    let rest = sites_after (below above (site_line site)) xs (omega arith) in (
      record {
        sites_are = omega (arith, rest.0.sites_are);
        points_are = rest.0.points_are;
        instructions_are = rest.0.instructions_are;
        part_is = rest.0.part_is;
      },
      rest.1,
    )

pub points_right : (seen : Seen) (above : Above) (number : ℕ) (xs : List Point) → above.points + length xs ≤ most → above.part ≤ 1
    → are_right seen above number (map point_line xs) ≡ true
points_right seen above number [] few part = refl
points_right seen above number (point ∷ xs) few part =
    and_from _ _ (and_from _ _ (le_true above.part 1 part) (rw (room above.points (omega (arith, few))) refl))
    (points_right seen (below above (point_line point)) (number + 1) xs (omega (arith, few)) (omega arith))

pub points_after : (above : Above) (xs : List Point) → above.part ≤ 1
    → StandsBelow (after above (map point_line xs)) above.sites (above.points + length xs) above.instructions
points_after above [] part = record { sites_are = refl; points_are = omega arith; instructions_are = refl; part_is = omega (arith, part) }
points_after above (point ∷ xs) part =
    let rest = points_after (below above (point_line point)) xs (omega arith) in record {
      sites_are = rest.sites_are;
      points_are = omega (arith, rest.points_are);
      instructions_are = rest.instructions_are;
      part_is = rest.part_is;
    }

-- ---- the body

-- an instruction's jump is found, and goes where it is written to go
pub record IsFound (seen : Seen) (i : Instr) : Type 0 where
  pub reached : reaches seen (jump_target i) ≡ true
  pub goes : going_to (named seen) i ≡ i

row_right : (seen : Seen) (above : Above) (number place : ℕ) (target : Bool) → nat_le above.part 2 ≡ true
    → (target ≡ true → stands_at number (seen.first place) ≡ true)
    → are_right seen above number (if target then content.Label place ∷ [] else []) ≡ true
row_right seen above number place true part stands = and_from _ _ (and_from _ _ part (rw (stands refl) refl)) refl
row_right seen above number place false part stands = refl

row_after : (above : Above) (place : ℕ) (target : Bool) (sites points : ℕ) → StandsBelow above sites points place
    → StandsBelow (after above (if target then content.Label place ∷ [] else [])) sites points place
row_after above place true sites points stands = record {
  sites_are = stands.sites_are;
  points_are = stands.points_are;
  instructions_are = stands.instructions_are;
  part_is = omega arith;
}
row_after above place false sites points stands = stands

instruction_right : (seen : Seen) (above : Above) (number sites points count place : ℕ) (i : Instr) → StandsBelow above sites points place
    → place < most → names_what_is_there sites points count i ≡ true → reaches seen (jump_target i) ≡ true
    → is_right seen above number (content.Instruction i) ≡ true
instruction_right seen above number sites points count place i stands few names reached =
    let parts = names_parts sites points count i names in
    let p : is_below above.points (read_point i) ≡ true = ap (λ n. is_below n (read_point i)) stands.points_are ∙ parts.0 in
    let s : is_below above.sites (check_site i) ≡ true = ap (λ n. is_below n (check_site i)) stands.sites_are ∙ parts.2 in
    let r : nat_lt above.instructions most ≡ true = room above.instructions (omega (arith, stands.instructions_are, few)) in
    and_from _ _ (le_true above.part 2 stands.part_is) (rw (p, s, r, reached) refl)

-- a list of instructions, each of which is found
abbrev pub AreFound : Seen → List Instr → Type 0
AreFound seen [] = Unit {0}
AreFound seen (i ∷ xs) = IsFound seen i × AreFound seen xs

-- where a label stands that isn't met yet
abbrev pub Rest : Seen → List Instr → (number place : ℕ) → List Instr → Type 0
Rest seen code number place xs = (q : ℕ) → place ≤ q → seen.first q ≡ first_label q number place (map line_of (body_lines code place xs))

stands_here : (number place : ℕ) (o : Option Label) → o ≡ Some (record { line = number; place = place }) → stands_at number o ≡ true
stands_here number place o is = ap (stands_at number) is ∙ eq-eqb number number refl

pub body_right : (seen : Seen) (code : List Instr) (above : Above) (number sites points count place : ℕ) (xs : List Instr)
    → StandsBelow above sites points place
    → place + length xs ≤ most → list_all (names_what_is_there sites points count) xs ≡ true → list_all (λ i. fits (content.Instruction i)) xs ≡ true
    → AreFound seen xs → Rest seen code number place xs → are_right seen above number (body_lines code place xs) ≡ true
body_right seen code above number sites points count place [] stands few names fit found rest = refl
body_right seen code above number sites points count place (i ∷ xs) stands few names fit found rest =
    let n = and_parts (names_what_is_there sites points count i) (list_all (names_what_is_there sites points count) xs) names in
    let f = and_parts (fits (content.Instruction i)) (list_all (λ i. fits (content.Instruction i)) xs) fit in
    let target = list_any (goes_to place) code in
    let row = label_rows code place in
    let here = number + length row in
    let id = id_from place (omega (arith, few)) in
    let next = row_after above place target sites points stands in
    let behind : StandsBelow (below (after above row) (content.Instruction i)) sites points (place + 1) = record {
      sites_are = next.sites_are;
      points_are = next.points_are;
      instructions_are = omega (arith, next.instructions_are);
      part_is = omega arith;
    } in
    right_append seen above number here row (content.Instruction i ∷ body_lines code (place + 1) xs)
    (row_right seen above number place target (le_true above.part 2 stands.part_is)
    (λ is. stands_here number place (seen.first place)
    (rest place (omega arith) ∙ label_here code number place (content.Instruction i ∷ body_lines code (place + 1) xs) is id)))
    refl
    (and_from _ _ (instruction_right seen (after above row) here sites points count place i next (omega (arith, few)) n.0 found.0.reached)
    (body_right seen code (below (after above row) (content.Instruction i)) (here + 1) sites points count (place + 1) xs behind (omega (arith, few))
    n.1 f.1 found.1
    (λ q low. rest q (omega (arith, low)) ∙ body_past code q number place i (body_lines code (place + 1) xs) (omega (arith, low)) id f.0)))

-- ---- jumps

found_jump : (seen : Seen) (t : ℕ) (label : Label) → seen.first t ≡ Some label → label.place ≡ t → t < seen.instructions → t < most
    → (reaches seen (Some t) ≡ true) × (named seen t ≡ t)
found_jump seen t label is place there few = (
  ap (is_followed seen.instructions) is ∙ lt-ltb label.place seen.instructions (omega (arith, place, there)),
  ap (place_or t) is ∙ omega (arith, place, few),
)

instruction_found : (seen : Seen) (i : Instr) → ((t : ℕ) → jump_target i ≡ Some t → (reaches seen (Some t) ≡ true) × (named seen t ≡ t)) → IsFound seen i
instruction_found seen (instr.Jump t) each = let at = each t refl in record { reached = at.0; goes = ap instr.Jump at.1 }
instruction_found seen (instr.JumpIfFalse t) each = let at = each t refl in record { reached = at.0; goes = ap instr.JumpIfFalse at.1 }
instruction_found seen (instr.CallProcedure n t) each = let at = each t refl in record { reached = at.0; goes = ap (instr.CallProcedure n) at.1 }
instruction_found seen _ each = record { reached = refl; goes = refl }

any_there : (test : Instr → Bool) (front : List Instr) (i : Instr) (more : List Instr) → test i ≡ true → list_any test (front ++ i ∷ more) ≡ true
any_there test [] i more is = rw is refl
any_there test (x ∷ front) i more is = or_true (test x) _ (any_there test front i more is)
  where
    or_true : (a b : Bool) → b ≡ true → (a || b) ≡ true
    or_true true b is = refl
    or_true false b is = is

below_is : (bound t : ℕ) (o : Option ℕ) → o ≡ Some t → is_below bound o ≡ true → t < bound
below_is bound t None is below = absurd cc
below_is bound t (Some n) is below = let same = some_is n t is in grind (arith, nat_tests)

goes_there : (t : ℕ) (o : Option ℕ) → o ≡ Some t → option_map_or (nat_eq t) o false ≡ true
goes_there t o is = ap (λ o. option_map_or (nat_eq t) o false) is ∙ eq-eqb t t refl

pub all_found : (seen : Seen) (code front more : List Instr) (sites points : ℕ) → front ++ more ≡ code → length code ≤ most
    → seen.instructions ≡ length code
    → ((t : ℕ) → t < length code → list_any (goes_to t) code ≡ true → (label : Label) × (seen.first t ≡ Some label) × (label.place ≡ t))
    → list_all (names_what_is_there sites points (length code)) more ≡ true → AreFound seen more
all_found seen code front [] sites points is few count known names = tt
all_found seen code front (i ∷ more) sites points is few count known names =
    let n = and_parts (names_what_is_there sites points (length code) i) (list_all (names_what_is_there sites points (length code)) more) names in
    let parts = names_parts sites points (length code) i n.0 in (
      instruction_found seen i (λ t target.
          let there = below_is (length code) t (jump_target i) target parts.1 in
          let any = ap (list_any (goes_to t)) (sym is) ∙ any_there (goes_to t) front i more (goes_there t (jump_target i) target) in
          let label = known t there any in
          found_jump seen t label.0 label.1 label.2 (omega (arith, count, there)) (omega (arith, few, there))),
      all_found seen code (front ++ i ∷ []) more sites points (append_assoc front (i ∷ []) more ∙ is) few count known n.1,
    )

pub going_nowhere_else : (seen : Seen) (xs : List Instr) → AreFound seen xs → map (going_to (named seen)) xs ≡ xs
going_nowhere_else seen [] found = refl
going_nowhere_else seen (i ∷ xs) found =
    ap (λ j. j ∷ map (going_to (named seen)) xs) found.0.goes ∙ ap (λ more. i ∷ more) (going_nowhere_else seen xs found.1)

-- ---- rows

pub site_rows_are : (above : Above) (xs : List Site)
    → map (λ (site : Site). site.id) xs ≡ range_with_len above.sites (length (map (λ (site : Site). site.id) xs)) → rows site_rows above (map site_line xs) ≡ xs
site_rows_are above [] ids = refl
site_rows_are above (site ∷ xs) ids =
    let id : site.id ≡ above.sites = cc in
    ap (λ (n : ℕ). (let one : Site = record { id = n; line = site.line; column = site.column; kind = site.kind } in one)
    ∷ rows site_rows (below above (site_line site)) (map site_line xs)) (sym id)
    ∙ ap (λ more. site ∷ more) (site_rows_are (below above (site_line site)) xs cc)

pub point_rows_are : (above : Above) (xs : List Point)
    → map (λ (point : Point). point.id) xs ≡ range_with_len above.points (length (map (λ (point : Point). point.id) xs))
    → rows point_rows above (map point_line xs) ≡ xs
point_rows_are above [] ids = refl
point_rows_are above (point ∷ xs) ids =
    let id : point.id ≡ above.points = cc in
    ap (λ (n : ℕ). (let one : Point = record { id = n; line = point.line; column = point.column } in one)
    ∷ rows point_rows (below above (point_line point)) (map point_line xs)) (sym id)
    ∙ ap (λ more. point ∷ more) (point_rows_are (below above (point_line point)) xs cc)

-- lines of other kinds add no row
pub no_site_rows : (above : Above) (xs : List Point) → rows site_rows above (map point_line xs) ≡ []
no_site_rows above [] = refl
no_site_rows above (x ∷ xs) = no_site_rows (below above (point_line x)) xs

pub no_point_rows : (above : Above) (xs : List Site) → rows point_rows above (map site_line xs) ≡ []
no_point_rows above [] = refl
no_point_rows above (x ∷ xs) = no_point_rows (below above (site_line x)) xs

pub no_code_of_sites : (above : Above) (xs : List Site) → rows instruction_rows above (map site_line xs) ≡ []
no_code_of_sites above [] = refl
no_code_of_sites above (x ∷ xs) = no_code_of_sites (below above (site_line x)) xs

pub no_code_of_points : (above : Above) (xs : List Point) → rows instruction_rows above (map point_line xs) ≡ []
no_code_of_points above [] = refl
no_code_of_points above (x ∷ xs) = no_code_of_points (below above (point_line x)) xs

-- what instructions add alone
abbrev pub of_code : {A : Type 0} → (Instr → List A) → List Instr → List A
of_code each [] = []
of_code each (i ∷ xs) = each i ++ of_code each xs

pub body_rows : {A : Type 0} (row : Above → Content → List A) (each : Instr → List A) → ((above : Above) (n : ℕ) → row above (content.Label n) ≡ [])
    → ((above : Above) (i : Instr) → row above (content.Instruction i) ≡ each i)
    → (code : List Instr) (above : Above) (place : ℕ) (xs : List Instr) → rows row above (body_lines code place xs) ≡ of_code each xs
body_rows row each none is code above place [] = refl
body_rows row each none is code above place (i ∷ xs) =
    rows_append row above (label_rows code place) (content.Instruction i ∷ body_lines code (place + 1) xs)
    ∙ ap (λ front. front ++ rows row (after above (label_rows code place)) (content.Instruction i ∷ body_lines code (place + 1) xs))
    (labels_none (list_any (goes_to place) code))
    ∙ ap (λ front. front ++ rows row (below (after above (label_rows code place)) (content.Instruction i)) (body_lines code (place + 1) xs))
    (is (after above (label_rows code place)) i)
    ∙ ap (λ more. each i ++ more)
    (body_rows row each none is code (below (after above (label_rows code place)) (content.Instruction i)) (place + 1) xs)
  where
    labels_none : (target : Bool) → rows row above (if target then content.Label place ∷ [] else []) ≡ []
    labels_none true = append-nil (row above (content.Label place)) ∙ none above place
    labels_none false = refl

pub no_rows : {A : Type 0} (xs : List Instr) → of_code {A = A} (λ i. []) xs ≡ []
no_rows [] = refl
no_rows (i ∷ xs) = no_rows xs

pub code_rows : (xs : List Instr) → of_code (λ i. i ∷ []) xs ≡ xs
code_rows [] = refl
code_rows (i ∷ xs) = ap (λ more. i ∷ more) (code_rows xs)

pub three : {A : Type 0} (row : Above → Content → List A) (s p b : List Content) (sites points body : List A) (above : Above) → rows row above s ≡ sites
    → rows row (after above s) p ≡ points → rows row (after (after above s) p) b ≡ body → rows row above (s ++ (p ++ b)) ≡ sites ++ (points ++ body)
three row s p b sites points body above s_is p_is b_is =
    rows_append row above s (p ++ b) ∙ ap (λ front. front ++ rows row (after above s) (p ++ b)) s_is
    ∙ ap (λ rest. sites ++ rest) (rows_append row (after above s) p b
    ∙ ap (λ front. front ++ rows row (after (after above s) p) b) p_is ∙ ap (λ rest. points ++ rest) b_is)

-- ---- counts

pub sites_count : (xs : List Site) → code_count (map site_line xs) ≡ 0
sites_count [] = refl
sites_count (x ∷ xs) = omega (arith, sites_count xs)

pub points_count : (xs : List Point) → code_count (map point_line xs) ≡ 0
points_count [] = refl
points_count (x ∷ xs) = omega (arith, points_count xs)

pub count_append : (a b : List Content) → code_count (a ++ b) ≡ code_count a + code_count b
count_append [] b = omega arith
count_append (x ∷ a) b = omega (arith, count_append a b)

pub body_count : (code : List Instr) (place : ℕ) (xs : List Instr) → code_count (body_lines code place xs) ≡ length xs
body_count code place [] = refl
body_count code place (i ∷ xs) =
    count_append (label_rows code place) (content.Instruction i ∷ body_lines code (place + 1) xs)
    ∙ omega (arith, label_count (list_any (goes_to place) code), body_count code (place + 1) xs)
  where
    label_count : (target : Bool) → code_count (if target then content.Label place ∷ [] else []) ≡ 0
    label_count true = refl
    label_count false = refl

pub sites_other : (q : ℕ) (xs : List Site) → list_all (is_other q) (map site_line xs) ≡ true
sites_other q [] = refl
sites_other q (x ∷ xs) = sites_other q xs

pub points_other : (q : ℕ) (xs : List Point) → list_all (is_other q) (map point_line xs) ≡ true
points_other q [] = refl
points_other q (x ∷ xs) = points_other q xs
