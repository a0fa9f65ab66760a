-- How ways count: entries, loops, sites and points.
use Rattle.std.proofs.Common.{◌≡◌, ℕ, Bool, zero, suc, ◌+◌, ◌≤◌, List, [], ◌∷◌, ◌++◌, length, length-append, refl, sym, ap, subst, ◌∙◌, arith}
use Rattle.std.specs.List.{range_with_len, flat_map}
use Rattle.std.proofs.lemmas.Grind.{flat_map-append}
use Rattle.typed_tree.specs.WellFormed.{most_entries, most_numbered}
use Rattle.typed_tree.specs.Look.{Mark, Look, ForEnds, mark_entries, mark_loops}
use Rattle.typing.specs.Passing.{Passed}
use Rattle.typing.specs.Steps.{most_sites}
use Rattle.typing.proofs.Ways.{Owner, Step, Controlled, Assigned, Way, Stay, One, Then, Entry, Loop, Marked, Ended, Site, Point}

-- marks have the next numbers, from one on to another
pub record GoesOn (numbers : Mark → List ℕ) (look : Look) (from next : ℕ) : Type 0 where
  pub ascends : flat_map numbers look ≡ range_with_len from (length (flat_map numbers look))
  pub next_is : next ≡ from + length (flat_map numbers look)

range_joins : (a m n : ℕ) → range_with_len a (m + n) ≡ range_with_len a m ++ range_with_len (a + m) n
range_joins a zero n =
    let left : 0 + n ≡ n = omega arith in
    let right : a ≡ a + 0 = omega arith in
    ap (range_with_len a) left ∙ ap (λ b. range_with_len b n) right
range_joins a (suc m) n =
    let left : suc m + n ≡ suc (m + n) = omega arith in
    let right : (a + 1) + m ≡ a + suc m = omega arith in
    ap (range_with_len a) left ∙ ap (λ l. a ∷ l) (range_joins (a + 1) m n ∙ ap (λ b. range_with_len (a + 1) m ++ range_with_len b n) right)

no_mark : {numbers : Mark → List ℕ} {from : ℕ} → GoesOn numbers [] from from
no_mark = record { ascends = refl; next_is = omega arith }

one_mark : {numbers : Mark → List ℕ} {one : Mark} {from : ℕ} → numbers one ≡ from ∷ [] → GoesOn numbers (one ∷ []) from (from + 1)
one_mark {numbers} {one} {from} is = record {
  ascends = subst (λ (l : List ℕ). l ++ [] ≡ range_with_len from (length (l ++ []))) (sym is) refl;
  next_is = let counted : length (numbers one ++ []) ≡ 1 = ap (λ (l : List ℕ). length (l ++ [])) is in omega (arith, counted);
}

plain_mark : {numbers : Mark → List ℕ} {one : Mark} {from : ℕ} → numbers one ≡ [] → GoesOn numbers (one ∷ []) from from
plain_mark {numbers} {one} {from} none = record {
  ascends = subst (λ (l : List ℕ). l ++ [] ≡ range_with_len from (length (l ++ []))) (sym none) refl;
  next_is = let counted : length (numbers one ++ []) ≡ 0 = ap (λ (l : List ℕ). length (l ++ [])) none in omega (arith, counted);
}

both_go : {numbers : Mark → List ℕ} {look more : Look} {from between next : ℕ} → GoesOn numbers look from between → GoesOn numbers more between next
    → GoesOn numbers (look ++ more) from next
both_go {numbers} {look} {more} {from} f g =
    let all = flat_map numbers look in
    let others = flat_map numbers more in
    let counted = ap length (flat_map-append numbers look more) ∙ length-append all others in
    record {
      ascends =
          flat_map-append numbers look more ∙ ap (λ l. l ++ others) f.ascends
          ∙ ap (λ l. range_with_len from (length all) ++ l) (g.ascends ∙ ap (λ n. range_with_len n (length others)) f.next_is)
          ∙ sym (range_joins from (length all) (length others)) ∙ ap (range_with_len from) (sym counted);
      next_is = omega (arith, f.next_is, g.next_is, counted);
    }

-- the marks round the statement of a for
bracket_goes : {numbers : Mark → List ℕ} {first : Mark} {look : Look} {from next : ℕ} (last : Mark) → numbers first ≡ [] → numbers last ≡ []
    → GoesOn numbers look from next → GoesOn numbers (first ∷ (look ++ (last ∷ []))) from next
bracket_goes {numbers} last one two g = both_go (plain_mark {numbers = numbers} one) (both_go g (plain_mark {numbers = numbers} two))

entries_step : {acts : Bool} {owner : Owner} {from to : ℕ} {look : Look} {old new : Passed} → Step acts owner from to look old new
    → GoesOn mark_entries look old.entries new.entries
entries_step (Entry one few is) = one_mark (ap (λ n. n.0) is)
entries_step (Loop one few room is) = one_mark (ap (λ n. n.0) is)
entries_step (Marked one none) = plain_mark (ap (λ n. n.0) none)
entries_step (Ended one no_entry no_loop all) = plain_mark no_entry
entries_step other = no_mark

pub entries_go : {acts : Bool} {owner : Owner} {from to : ℕ} {look : Look} {old new : Passed} → Way acts owner from to look old new
    → GoesOn mark_entries look old.entries new.entries
entries_go Stay = no_mark
entries_go (One step) = entries_step step
entries_go (Then first second) = both_go (entries_go first) (entries_go second)
entries_go (Assigned root way told) = entries_go way
entries_go (Controlled root way) = bracket_goes ForEnds refl refl (entries_go way)

loops_step : {acts : Bool} {owner : Owner} {from to : ℕ} {look : Look} {old new : Passed} → Step acts owner from to look old new
    → GoesOn mark_loops look old.loops new.loops
loops_step (Entry one few is) = plain_mark (ap (λ n. n.1) is)
loops_step (Loop one few room is) = one_mark (ap (λ n. n.1) is)
loops_step (Marked one none) = plain_mark (ap (λ n. n.1) none)
loops_step (Ended one no_entry no_loop all) = plain_mark no_loop
loops_step other = no_mark

pub loops_go : {acts : Bool} {owner : Owner} {from to : ℕ} {look : Look} {old new : Passed} → Way acts owner from to look old new
    → GoesOn mark_loops look old.loops new.loops
loops_go Stay = no_mark
loops_go (One step) = loops_step step
loops_go (Then first second) = both_go (loops_go first) (loops_go second)
loops_go (Assigned root way told) = loops_go way
loops_go (Controlled root way) = bracket_goes ForEnds refl refl (loops_go way)

few_step : {acts : Bool} {owner : Owner} {from to : ℕ} {look : Look} {old new : Passed} → Step acts owner from to look old new → old.entries ≤ most_entries
    → new.entries ≤ most_entries
few_step (Entry one few is) h = omega (arith, few)
few_step (Loop one few room is) h = omega (arith, few)
few_step other h = h

-- there are never too many entries
pub few_entries : {acts : Bool} {owner : Owner} {from to : ℕ} {look : Look} {old new : Passed} → Way acts owner from to look old new
    → old.entries ≤ most_entries → new.entries ≤ most_entries
few_entries Stay h = h
few_entries (One step) h = few_step step h
few_entries (Then first second) h = few_entries second (few_entries first h)
few_entries (Assigned root way told) h = few_entries way h
few_entries (Controlled root way) h = few_entries way h

loop_few : {acts : Bool} {owner : Owner} {from to : ℕ} {look : Look} {old new : Passed} → Step acts owner from to look old new → old.loops ≤ most_numbered
    → new.loops ≤ most_numbered
loop_few (Loop one few room is) h = omega (arith, room)
loop_few other h = h

-- nor too many loops
pub few_loops : {acts : Bool} {owner : Owner} {from to : ℕ} {look : Look} {old new : Passed} → Way acts owner from to look old new
    → old.loops ≤ most_numbered → new.loops ≤ most_numbered
few_loops Stay h = h
few_loops (One step) h = loop_few step h
few_loops (Then first second) h = few_loops second (few_loops first h)
few_loops (Assigned root way told) h = few_loops way h
few_loops (Controlled root way) h = few_loops way h

sites_step : {acts : Bool} {owner : Owner} {from to : ℕ} {look : Look} {old new : Passed} → Step acts owner from to look old new
    → length old.sites ≤ most_sites → length new.sites ≤ most_sites
sites_step {old = old} (Site kind place few) h = let counted = length-append old.sites ((kind, place) ∷ []) in omega (arith, few, counted)
sites_step other h = h

-- nor too many sites
pub few_sites : {acts : Bool} {owner : Owner} {from to : ℕ} {look : Look} {old new : Passed} → Way acts owner from to look old new
    → length old.sites ≤ most_sites → length new.sites ≤ most_sites
few_sites Stay h = h
few_sites (One step) h = sites_step step h
few_sites (Then first second) h = few_sites second (few_sites first h)
few_sites (Assigned root way told) h = few_sites way h
few_sites (Controlled root way) h = few_sites way h

points_step : {acts : Bool} {owner : Owner} {from to : ℕ} {look : Look} {old new : Passed} → Step acts owner from to look old new
    → length old.points ≤ most_sites → length new.points ≤ most_sites
points_step {old = old} (Point place few) h = let counted = length-append old.points (place ∷ []) in omega (arith, few, counted)
points_step other h = h

-- nor too many points
pub few_points : {acts : Bool} {owner : Owner} {from to : ℕ} {look : Look} {old new : Passed} → Way acts owner from to look old new
    → length old.points ≤ most_sites → length new.points ≤ most_sites
few_points Stay h = h
few_points (One step) h = points_step step h
few_points (Then first second) h = few_points second (few_points first h)
few_points (Assigned root way told) h = few_points way h
few_points (Controlled root way) h = few_points way h
