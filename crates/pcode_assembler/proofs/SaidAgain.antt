-- The text of a code says that code.
use Rattle.std.proofs.Common.{◌≡◌, ℕ, ◌+◌, true, List, [], ◌∷◌, ◌++◌, length, map, refl, sym, ap, ◌∙◌, arith}
use Rattle.std.specs.List.{list_all, range_with_len}
use Rattle.std.proofs.lemmas.List.{append-nil}
use Rattle.pcode_assembler.specs.declared.code.Code.{Code}
use Rattle.pcode_assembler.specs.declared.code.Point.{Point}
use Rattle.pcode_assembler.specs.declared.content.Content.{Content}
use Rattle.pcode_assembler.specs.declared.content.Content.TheVariants as content
use Rattle.pcode_assembler.specs.declared.labels.Label.{Label}
use Rattle.pcode_assembler.specs.Contents.{HasText, Says, are_right, body_lines, contents, going_to, instruction_rows, lines_of, named, point_line, point_rows}
use Rattle.pcode_assembler.specs.Contents.{site_line, site_rows, spelling}
use Rattle.pcode_assembler.specs.Lines.{fits, line_of}
use Rattle.pcode_assembler.specs.Text.{Seen, first_label, seen_in, start}
use Rattle.pcode_assembler.specs.Writing.{have_numbers}
use Rattle.pcode_assembler.proofs.Labelled.{body_fits, body_label, code_count, count_is, fits_append, map_append, past_heading, skip}
use Rattle.pcode_assembler.proofs.Spelling.{AreFound, StandsBelow, all_found, all_spellable, body_count, body_right, body_rows, code_rows, count_append}
use Rattle.pcode_assembler.proofs.Spelling.{going_nowhere_else, no_code_of_points, no_code_of_sites, no_point_rows, no_rows, no_site_rows, point_rows_are}
use Rattle.pcode_assembler.proofs.Spelling.{points_after, points_count, points_fit, points_other, points_right, right_append, site_rows_are, sites_after}
use Rattle.pcode_assembler.proofs.Spelling.{sites_count, sites_fit, sites_other, sites_right, three}
use Rattle.pcode_assembler.proofs.Steps.{after}

abbrev sites_of : Code → List Content
sites_of code = map site_line code.sites.items

abbrev points_of : Code → List Content
points_of code = map point_line code.points.items

abbrev body_of : Code → List Content
body_of code = body_lines code.instructions.items 0 code.instructions.items

each_fits : (code : Code) → HasText code → have_numbers code.instructions.items ≡ true
    → list_all (λ i. fits (content.Instruction i)) code.instructions.items ≡ true
each_fits code has numbers =
    all_spellable (length code.sites.items) (length code.points.items) (length code.instructions.items) code.instructions.items
    has.few_sites has.few_points has.few_instructions has.writable.operands has.writable.names numbers

body_fit : (code : Code) → HasText code → have_numbers code.instructions.items ≡ true → list_all fits (body_of code) ≡ true
body_fit code has numbers =
    body_fits code.instructions.items 0 code.instructions.items (omega (arith, has.few_instructions)) (each_fits code has numbers)

all_fit : (code : Code) → HasText code → have_numbers code.instructions.items ≡ true → list_all fits (contents code) ≡ true
all_fit code has numbers =
    fits_append (sites_of code) (points_of code ++ body_of code) (sites_fit code.sites.items has.site_places has.writable.kinds)
    (fits_append (points_of code) (body_of code) (points_fit code.points.items has.point_places) (body_fit code has numbers))

abbrev all_seen : Code → Seen
all_seen code = seen_in (lines_of (contents code))

-- the first line of a body
abbrev body_number : Code → ℕ
body_number code = 2 + length (sites_of code) + length (points_of code)

-- labels stand in the body alone
first_in_body : (code : Code) → HasText code → have_numbers code.instructions.items ≡ true → (q : ℕ)
    → (all_seen code).first q ≡ first_label q (body_number code) 0 (map line_of (body_of code))
first_in_body code has numbers q =
    let s = sites_of code in
    let p = points_of code in
    let b = body_of code in
    let none_s : 0 + code_count s ≡ 0 = omega (arith, sites_count code.sites.items) in
    let none_p : 0 + code_count p ≡ 0 = omega (arith, points_count code.points.items) in
    past_heading q (map line_of (contents code))
    ∙ ap (first_label q 2 0) (map_append s (p ++ b))
    ∙ skip q 2 0 s (map line_of (p ++ b)) (sites_fit code.sites.items has.site_places has.writable.kinds) (sites_other q code.sites.items)
    ∙ ap (λ n. first_label q (2 + length s) n (map line_of (p ++ b))) none_s
    ∙ ap (first_label q (2 + length s) 0) (map_append p b)
    ∙ skip q (2 + length s) 0 p (map line_of b) (points_fit code.points.items has.point_places) (points_other q code.points.items)
    ∙ ap (λ n. first_label q (body_number code) n (map line_of b)) none_p

count_of_code : (code : Code) → HasText code → have_numbers code.instructions.items ≡ true
    → (all_seen code).instructions ≡ length code.instructions.items
count_of_code code has numbers =
    let c = count_is (contents code) (all_fit code has numbers) in
    let one = count_append (sites_of code) (points_of code ++ body_of code) in
    let two = count_append (points_of code) (body_of code) in
    let body = body_count code.instructions.items 0 code.instructions.items in
    omega (arith, c, one, two, body, sites_count code.sites.items, points_count code.points.items)

found : (code : Code) → HasText code → have_numbers code.instructions.items ≡ true → AreFound (all_seen code) code.instructions.items
found code has numbers =
    let is = code.instructions.items in
    all_found (all_seen code) is [] is (length code.sites.items) (length code.points.items) refl has.few_instructions (count_of_code code has numbers)
    (λ t there any.
    let at = body_label is t (body_number code) 0 is (omega arith) (omega (arith, there)) (omega (arith, has.few_instructions)) any
    (each_fits code has numbers) in
    let label : Label = record { line = at.0; place = t } in
    (label, first_in_body code has numbers t ∙ at.1, refl))
    has.writable.names

right : (code : Code) → HasText code → have_numbers code.instructions.items ≡ true → are_right (all_seen code) start 2 (contents code) ≡ true
right code has numbers =
    let seen = all_seen code in
    let sites = code.sites.items in
    let points = code.points.items in
    let is = code.instructions.items in
    let one = sites_after start sites (omega arith) in
    let middle = after start (sites_of code) in
    let two = points_after middle points (omega (arith, one.1)) in
    let below : StandsBelow (after middle (points_of code)) (length sites) (length points) 0 = record {
      sites_are = omega (arith, two.sites_are, one.0.sites_are);
      points_are = omega (arith, two.points_are, one.0.points_are);
      instructions_are = omega (arith, two.instructions_are, one.0.instructions_are);
      part_is = two.part_is;
    } in
    right_append seen start 2 (2 + length (sites_of code)) (sites_of code) (points_of code ++ body_of code)
    (sites_right seen start 2 sites (omega (arith, has.few_sites)) (omega arith)) refl
    (right_append seen middle (2 + length (sites_of code)) (body_number code) (points_of code) (body_of code)
    (points_right seen middle (2 + length (sites_of code)) points (omega (arith, one.0.points_are, has.few_points)) (omega (arith, one.1))) refl
    (body_right seen is (after middle (points_of code)) (body_number code) (length sites) (length points) (length is) 0 is below
    (omega (arith, has.few_instructions)) has.writable.names (each_fits code has numbers) (found code has numbers)
    (λ q low. first_in_body code has numbers q)))

-- what is written of a code says it
pub spelled : (code : Code) → HasText code → have_numbers code.instructions.items ≡ true → Says (spelling code) code
spelled code has numbers =
    let sites = code.sites.items in
    let points = code.points.items in
    let is = code.instructions.items in
    let s = sites_of code in
    let p = points_of code in
    let middle = after start s in
    let one = sites_after start sites (omega arith) in
    let from_none : middle.points ≡ 0 = omega (arith, one.0.points_are) in record {
      said = contents code;
      text_is = refl;
      fit = all_fit code has numbers;
      right = right code has numbers;
      sites = sym (three site_rows s p (body_of code) sites [] [] start (site_rows_are start sites has.writable.sites)
          (no_site_rows middle points)
          (body_rows site_rows (λ i. []) (λ a n. refl) (λ a i. refl) is (after middle p) 0 is ∙ no_rows is)
          ∙ append-nil sites);
      points = sym (three point_rows s p (body_of code) [] points [] start (no_point_rows start sites)
          (point_rows_are middle points (has.writable.points
          ∙ ap (λ n. range_with_len n (length (map (λ (point : Point). point.id) points))) (sym from_none)))
          (body_rows point_rows (λ i. []) (λ a n. refl) (λ a i. refl) is (after middle p) 0 is ∙ no_rows is)
          ∙ append-nil points);
      instructions = sym (ap (map (going_to (named (all_seen code))))
          (three instruction_rows s p (body_of code) [] [] is start (no_code_of_sites start sites) (no_code_of_points middle points)
          (body_rows instruction_rows (λ i. i ∷ []) (λ a n. refl) (λ a i. refl) is (after middle p) 0 is ∙ code_rows is))
          ∙ going_nowhere_else (all_seen code) is (found code has numbers));
    }
