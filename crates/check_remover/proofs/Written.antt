-- Code that can be written can be written without some of its checks, if its last instruction is none.
use Rattle.std.proofs.Common.{◌≡◌, ℕ, zero, suc, ◌<◌, ◌≤◌, Bool, true, false, cond, List, [], ◌∷◌, Some, None, length, map, take, refl, sym, ap, ◌∙◌, subst}
use Rattle.std.proofs.Common.{arith, ◌&&◌}
use Rattle.std.specs.Prelude.{count_by, filter, nat_lt}
use Rattle.std.specs.List.{list_all}
use Rattle.std.specs.Option.{option_and_then, option_map_or}
use Rattle.std.proofs.lemmas.Bool.{and_parts, lt-ltb, ltb-true}
use Rattle.std.proofs.lemmas.List.{length-map}
use Rattle.std.proofs.lemmas.List.Sums.{count_by-le-length, length-filter, sum_by-cons}
use Rattle.std.proofs.lemmas.Option.{none-some, same_Some}
use Rattle.pcode_assembler.specs.declared.code.Code.{Code}
use Rattle.pcode_assembler.specs.declared.code.Site.{Site}
use Rattle.pcode_assembler.specs.declared.code.Point.{Point}
use Rattle.pcode_assembler.specs.declared.instr.Instr.{Instr}
use Rattle.pcode_assembler.specs.declared.instr.Instr.TheVariants as instr
use Rattle.pcode_assembler.specs.Bounds.{in_bounds}
use Rattle.pcode_assembler.specs.Contents.{HasText}
use Rattle.pcode_assembler.specs.Lines.{is_place}
use Rattle.pcode_assembler.specs.Writable.{AreNumbered, EndsInNoCheck, IsWritable, check_site, is_kind, last_of, names_what_is_there}
use Rattle.check_remover.specs.Strip.{is_among, moved, moved_place, stays, strip, strip_by}

-- ---- an instruction whose jump is moved

moved_operands : (to : ℕ → ℕ) (i : Instr) → in_bounds (moved to i) ≡ in_bounds i
moved_operands to (instr.Jump target) = refl
moved_operands to (instr.JumpIfFalse target) = refl
moved_operands to (instr.CallProcedure n target) = refl
moved_operands to i = refl

moved_site : (to : ℕ → ℕ) (i : Instr) → check_site (moved to i) ≡ check_site i
moved_site to (instr.Jump target) = refl
moved_site to (instr.JumpIfFalse target) = refl
moved_site to (instr.CallProcedure n target) = refl
moved_site to i = refl

module _ (to : ℕ → ℕ) (sites points count fewer : ℕ) (inside : (target : ℕ) → target < count → to target < fewer) where
  moved_target : (target : ℕ) → (nat_lt target count && true) ≡ true → (nat_lt (to target) fewer && true) ≡ true
  moved_target target h = ap (λ b. b && true) (lt-ltb (to target) fewer (inside target (ltb-true target count (and_parts (nat_lt target count) true h).0)))

  moved_names : (i : Instr) → names_what_is_there sites points count i ≡ true → names_what_is_there sites points fewer (moved to i) ≡ true
  moved_names (instr.Jump target) h = moved_target target h
  moved_names (instr.JumpIfFalse target) h = moved_target target h
  moved_names (instr.CallProcedure n target) h = moved_target target h
  moved_names i h = h

-- what holds of each instruction holds of those that stay, changed
module _ (p q stay : Instr → Bool) (change : Instr → Instr) (so : (i : Instr) → p i ≡ true → q (change i) ≡ true) where
  one_stays : (i : Instr) (rest : List Instr) (stays_there : Bool) → p i ≡ true → list_all q (map change rest) ≡ true
      → list_all q (map change (cond stays_there (i ∷ rest) rest)) ≡ true
  one_stays i rest true first others = ap (λ b. b && list_all q (map change rest)) (so i first) ∙ others
  one_stays i rest false first others = others

  all_stay : (code : List Instr) → list_all p code ≡ true → list_all q (map change (filter stay code)) ≡ true
  all_stay [] h = refl
  all_stay (i ∷ code) h = let parts = and_parts (p i) (list_all p code) h in one_stays i (filter stay code) (stay i) parts.0 (all_stay code parts.1)

-- ---- the last instruction

last_there : (code : List Instr) → 0 < length code → (last : Instr) × (last_of code ≡ Some last)
last_there [] some = absurd (omega arith)
last_there (i ∷ []) some = (i, refl)
last_there (i ∷ next ∷ code) some = last_there (next ∷ code) (omega arith)

last_behind : (i : Instr) (code : List Instr) (last : Instr) → last_of code ≡ Some last → last_of (i ∷ code) ≡ Some last
last_behind i [] last at = absurd (none-some last at)
last_behind i (next ∷ code) last at = at

-- where it stays, fewer instructions stay before any place than all
module _ (stay : Instr → Bool) (last : Instr) (holds : stay last ≡ true) where
  fewer_before : (code : List Instr) → last_of code ≡ Some last → (place : ℕ) → place < length code → count_by stay (take place code) < count_by stay code
  fewer_before [] at place less = absurd (none-some last at)
  fewer_before (i ∷ []) at zero less =
      let one : ◌≡◌ {A = ℕ} (cond (stay i) 1 0) 1 = ap (λ b. cond b 1 0) (ap stay (same_Some i last at) ∙ holds) in
      omega (arith, one, sum_by-cons (λ j. cond (stay j) 1 0) i [])
  fewer_before (i ∷ []) at (suc place) less = absurd (omega (arith, less))
  fewer_before (i ∷ next ∷ code) at zero less =
      let rest = fewer_before (next ∷ code) at zero (omega arith) in
      omega (arith, rest, sum_by-cons (λ j. cond (stay j) 1 0) i (next ∷ code))
  fewer_before (i ∷ next ∷ code) at (suc place) less =
      let rest = fewer_before (next ∷ code) at place (omega (arith, less)) in
      omega (arith, rest, sum_by-cons (λ j. cond (stay j) 1 0) i (next ∷ code), sum_by-cons (λ j. cond (stay j) 1 0) i (take place (next ∷ code)))

  -- and it is the last of those that stay, changed
  module _ (change : Instr → Instr) where
    one_before : (i : Instr) (rest : List Instr) (stays_there : Bool) → last_of (map change rest) ≡ Some (change last)
        → last_of (map change (cond stays_there (i ∷ rest) rest)) ≡ Some (change last)
    one_before i rest true at = last_behind (change i) (map change rest) (change last) at
    one_before i rest false at = at

    last_stays : (code : List Instr) → last_of code ≡ Some last → last_of (map change (filter stay code)) ≡ Some (change last)
    last_stays [] at = absurd (none-some last at)
    last_stays (i ∷ []) at =
        let same = same_Some i last at in
        ap (λ b. last_of (map change (cond b (i ∷ []) []))) (ap stay same ∙ holds) ∙ ap (λ j. Some (change j)) same
    last_stays (i ∷ next ∷ code) at = one_before i (filter stay (next ∷ code)) (stay i) (last_stays (next ∷ code) at)

module _ (is_open : ℕ → Bool) where
  no_check_stays : (i : Instr) → check_site i ≡ None → stays is_open i ≡ true
  no_check_stays i none = ap (λ site. option_map_or is_open site true) none

  -- a jump to an instruction goes to one
  goes_inside : (code : List Instr) → EndsInNoCheck code → (target : ℕ) → target < length code
      → moved_place is_open code target < length (strip_by is_open code)
  goes_inside code ends target less =
      let last = last_there code (omega (arith, less)) in
      let stay = no_check_stays last.0 (sym (ap (option_and_then check_site) last.1) ∙ ends) in
      let those = filter (stays is_open) code in
      omega (
        arith,
        fewer_before (stays is_open) last.0 stay code last.1 target less,
        length-map those (moved (moved_place is_open code)),
        length-filter (stays is_open) code,
      )

  pub ends_still : (code : List Instr) → EndsInNoCheck code → EndsInNoCheck (strip_by is_open code)
  ends_still [] ends = refl
  ends_still (i ∷ code) ends =
      let to = moved_place is_open (i ∷ code) in
      let last = last_there (i ∷ code) (omega arith) in
      let none = sym (ap (option_and_then check_site) last.1) ∙ ends in
      ap (option_and_then check_site) (last_stays (stays is_open) last.0 (no_check_stays last.0 none) (moved to) (i ∷ code) last.1)
      ∙ moved_site to last.0 ∙ none

pub still_writable : (open_sites : List Site) (code stripped : Code) → stripped.instructions.items ≡ strip open_sites code.instructions.items
    → stripped.sites.items ≡ code.sites.items → stripped.points.items ≡ code.points.items → IsWritable code → EndsInNoCheck code.instructions.items
    → IsWritable stripped
still_writable open_sites code stripped is sites points writable ends =
    let whole = code.instructions.items in
    let is_open = is_among open_sites in
    let to = moved_place is_open whole in
    let in_tables : ℕ → ℕ → List Instr → Type 0 = λ s p is. list_all (names_what_is_there s p (length is)) is ≡ true in
    record {
      operands = ap (list_all in_bounds) is
          ∙ all_stay in_bounds in_bounds (stays is_open) (moved to) (λ i h. moved_operands to i ∙ h) whole writable.operands;
      names = subst (in_tables (length stripped.sites.items) (length stripped.points.items)) (sym is)
          (subst (λ s. in_tables (length s) (length stripped.points.items) (strip open_sites whole)) (sym sites)
          (subst (λ p. in_tables (length code.sites.items) (length p) (strip open_sites whole)) (sym points)
          (all_stay _ _ (stays is_open) (moved to)
          (moved_names to (length code.sites.items) (length code.points.items) (length whole) (length (strip open_sites whole))
          (goes_inside is_open whole ends)) whole writable.names)));
      sites = subst (λ s. AreNumbered (map (λ (site : Site). site.id) s)) (sym sites) writable.sites;
      points = subst (λ p. AreNumbered (map (λ (point : Point). point.id) p)) (sym points) writable.points;
      kinds = subst (λ s. list_all (λ (site : Site). is_kind site.kind) s ≡ true) (sym sites) writable.kinds;
    }

-- no more instructions stay than there are
no_more : (is_open : ℕ → Bool) (code : List Instr) → length (strip_by is_open code) ≤ length code
no_more is_open code =
    omega (
      arith,
      length-map (filter (stays is_open) code) (moved (moved_place is_open code)),
      length-filter (stays is_open) code,
      count_by-le-length (stays is_open) code,
    )

pub still_said : (open_sites : List Site) (code stripped : Code) → stripped.instructions.items ≡ strip open_sites code.instructions.items
    → stripped.sites.items ≡ code.sites.items → stripped.points.items ≡ code.points.items → HasText code → EndsInNoCheck code.instructions.items
    → HasText stripped
still_said open_sites code stripped is sites points has ends = record {
  writable = still_writable open_sites code stripped is sites points has.writable ends;
  few_sites = omega (arith, ap length sites, has.few_sites);
  few_points = omega (arith, ap length points, has.few_points);
  few_instructions = omega (arith, ap length is, no_more (is_among open_sites) code.instructions.items, has.few_instructions);
  site_places = ap (list_all (λ (site : Site). is_place site.line && is_place site.column)) sites ∙ has.site_places;
  point_places = ap (list_all (λ (point : Point). is_place point.line && is_place point.column)) points ∙ has.point_places;
}
