-- What the parts of a block build: forms of blocks inside it, with sites, entries, types, variables and headings; each block
-- ends once, as its heading tells, and what is known of blocks outside stays.
use Rattle.std.proofs.Common.{◌≡◌, ℕ, ◌+◌, ◌<◌, ◌≤◌, Bool, true, false, ◌&&◌, nat_eq, nat_lt, nat_le, List, [], ◌∷◌, ◌++◌, length, map, Option, Some, None, Ok}
use Rattle.std.proofs.Common.{option_map, slice_get, refl, sym, ap, subst, ◌∙◌, arith, append_assoc, length-append, inl, inr, ◌⊎◌, suc, zero}
use Rattle.std.specs.List.{list_any}
use Rattle.std.proofs.lemmas.Bool.Decides.{nat_tests}
use Rattle.std.proofs.lemmas.Grind.{flat_map-append}
use Rattle.std.proofs.lemmas.List.{length-map}
use Rattle.std.proofs.lemmas.Option.{slice_get_within}
use Rattle.scopes.specs.Scopes.{Region}
use Rattle.typed_tree.specs.declared.tree.FunctionResult.{FunctionResult}
use Rattle.typed_tree.specs.WellFormed.{Outline, variables_of}
use Rattle.typed_tree.specs.Look.{Mark, Look, BlockEnds, mark_blocks, blocks_of_look, are_formed}
use Rattle.typed_tree.specs.declared.tree.Variable.{Variable}
use Rattle.typing.specs.Passing.{Enclosing, Headed, Passed, After, Passing, ◌>>◌}
use Rattle.typing.proofs.Ways.{Of, Way}
use Rattle.typing_laws.proofs.Grown.{Sited, sited_then, sited_more, both_true, further, grown_further}
use Rattle.typing_laws.proofs.Steps.{no_sites}
use Rattle.typing_laws.proofs.Went.{Grows, grow_then, grows, no_mark, same_controls, silent}
use Rattle.typing_laws.proofs.Headings.{parts_of}
use Rattle.typing_laws.proofs.Keeping.{Ready, Keeps}
use Rattle.typing_laws.proofs.Owned.{Fails, cells_of_block, block_cells_longer}
use Rattle.typing_laws.proofs.Reached.{IsLonger, get_longer, Signature, signature_passed, Head, head_of, Reached}
use Rattle.typing_laws.proofs.Reached.{reached, whole_of, IsFurther, further_still, Here, StandsIn, stands_later, is_round_here}
use Rattle.typing_laws.proofs.Ready.{heads_passed}
use Rattle.typing_laws.proofs.Tables.{HaveTypes, cells_in}
use Rattle.typing_laws.proofs.Waiting.{waits_in, one_if, count_of, count_append}
use Rattle.typing_laws.specs.Controls.{AreUnthreatened, Each, in_blocks, mark_changes, mark_controls, spared_behind}
use Rattle.typing_laws.specs.Opened.{opened_behind}
use Rattle.typing_laws.proofs.Spared.{spared_then}
use Rattle.typing_laws.proofs.Opened.{opened_then}
use Rattle.typing_laws.proofs.Kept.{each_append, each_more}
use Rattle.typing_laws.proofs.Placed.{each_pair, each_square}
use Rattle.typing_laws.proofs.Covers.{Stood}

-- ---- blocks that end

-- the site of a result is one of those that there are
abbrev pub HasSite : ℕ → Option FunctionResult → Type 0
HasSite sites None = Unit {0}
HasSite sites (Some result) = result.defined < sites

-- a block ends as its heading tells
pub record EndsSo (now : Reached) (number : ℕ) (around parameters : List ℕ) (result : Option FunctionResult) : Type 0 where
  pub signature : Signature
  pub is_there : slice_get now.headings number ≡ Some signature
  pub around_it : signature.around ≡ around
  pub parameters_are : signature.parameters ≡ parameters
  pub result_is : signature.result ≡ option_map (λ r. r.root) result
  pub site : HasSite now.sites result

abbrev pub IsEnd : Reached → Mark → Type 0
IsEnd now (BlockEnds number around parameters result end) = EndsSo now number around parameters result
IsEnd now other = Unit {0}

abbrev pub AreEnds : Reached → Look → Type 0
AreEnds now [] = Unit {0}
AreEnds now (mark ∷ marks) = IsEnd now mark × AreEnds now marks

site_later : (few many : ℕ) (result : Option FunctionResult) → few ≤ many → HasSite few result → HasSite many result
site_later few many None more has = tt
site_later few many (Some result) more has = omega (arith, more, has)

end_later : (now next : Reached) (mark : Mark) → IsFurther now next → IsEnd now mark → IsEnd next mark
end_later now next (BlockEnds number around parameters result end) more e = record {
  signature = e.signature;
  is_there = get_longer more.headings number e.signature e.is_there;
  around_it = e.around_it;
  parameters_are = e.parameters_are;
  result_is = e.result_is;
  site = site_later now.sites next.sites result more.sites e.site;
}
end_later now next other more e = tt

pub ends_later : (now next : Reached) (look : Look) → IsFurther now next → AreEnds now look → AreEnds next look
ends_later now next [] more all = tt
ends_later now next (mark ∷ look) more all = (end_later now next mark more all.0, ends_later now next look more all.1)

pub ends_append : (now : Reached) (look more : Look) → AreEnds now look → AreEnds now more → AreEnds now (look ++ more)
ends_append now [] more one two = two
ends_append now (mark ∷ look) more one two = (one.0, ends_append now look more one.1 two)

-- forms in which no block ends
no_end : (now : Reached) (mark : Mark) → mark_blocks mark ≡ [] → IsEnd now mark
no_end now (BlockEnds number around parameters result end) none = absurd cc
no_end now other none = tt

first_none : (a b : List ℕ) → a ++ b ≡ [] → (a ≡ []) × (b ≡ [])
first_none [] b is = (refl, is)
first_none (x ∷ a) b is = absurd cc

pub no_ends : (now : Reached) (look : Look) → blocks_of_look look ≡ [] → AreEnds now look
no_ends now [] none = tt
no_ends now (mark ∷ look) none =
    let parts = first_none (mark_blocks mark) (blocks_of_look look) none in
    (no_end now mark parts.0, no_ends now look parts.1)

-- ---- what is built

-- these numbers
abbrev pub is_between : ℕ → ℕ → ℕ → Bool
is_between first last number = nat_le first number && nat_lt number last

-- a block that ended ended for good, and doesn't stand round this one
pub record IsOver (here : Here) (s : Passed) (block : ℕ) : Type 0 where
  pub there : block < length s.headings
  pub waits_not : Fails (waits_in s.enclosing.waiting block)
  pub outside : Fails (is_round_here here block)

-- a variable that forms change: one of this block or of one round it, which is threatened then, or one of a block that ended
-- with them
pub record IsChanged (here : Here) (look : Look) (s : Passed) (change : ℕ × ℕ) : Type 0 where
  pub variable : Variable
  pub is_there : slice_get s.variables change.1 ≡ Some variable
  pub stands :
      ((is_round_here here variable.block ≡ true) × (list_any (nat_eq change.1) s.threatened ≡ true))
      ⊎ (0 < count_of variable.block (blocks_of_look look))

-- a variable that controls a for statement: one of the block in which that stands, which ended
pub record IsControlled (look : Look) (s : Passed) (control : ℕ × ℕ) : Type 0 where
  pub variable : Variable
  pub is_there : slice_get s.variables control.1 ≡ Some variable
  pub own : variable.block ≡ control.0
  pub ended : 0 < count_of control.0 (blocks_of_look look)

pub record Built (here : Here) (look : Look) (old new : Passed) : Type 0 where
  pub grows : Grows old new
  pub formed : (o : Outline) → IsFurther (reached new) (whole_of o) → are_formed o look ≡ true
  pub parts : (o : Outline) (rest : Look) → are_formed o (look ++ rest) ≡ (are_formed o look && are_formed o rest)
  pub ends : AreEnds (reached new) look
  -- a block that was there ends or waits as before, and a new one ends or waits
  pub accounted :
      (number : ℕ)
      → count_of number (blocks_of_look look) + one_if (waits_in new.enclosing.waiting number)
      ≡ one_if (waits_in old.enclosing.waiting number) + one_if (is_between (length old.headings) (length new.headings) number)
  pub others :
      (number : ℕ) → number < length old.headings → Fails (nat_eq here.block number) → Fails (waits_in old.enclosing.waiting number)
      → variables_of number new.variables ≡ variables_of number old.variables
  pub placed : (roots : Mark → List ℕ) (rest : Look) → in_blocks roots (look ++ rest) ≡ in_blocks roots look ++ in_blocks roots rest
  pub over : (block : ℕ) → 0 < count_of block (blocks_of_look look) → IsOver here new block
  pub changed : Each (IsChanged here look new) (in_blocks mark_changes look)
  pub controlled : Each (IsControlled look new) (in_blocks mark_controls look)
  pub unthreatened : AreUnthreatened look
  pub controls_kept : new.controls ≡ old.controls
  pub spared : spared_behind [] look ≡ Some []
  pub opened : opened_behind [] look ≡ Some []

pub built_further : {here : Here} {look : Look} {old new : Passed} → Built here look old new
    → IsFurther (reached old) (reached new)
built_further {old = old} {new = new} b = grown_further old new b.grows b.controls_kept

pub no_fewer : {A : Type 0} (old new : List A) → IsLonger old new → length old ≤ length new
no_fewer old new longer = omega (arith, ap length longer.goes_on, length-append old longer.more)

pub between_both : (a b c number : ℕ) → a ≤ b → b ≤ c → one_if (is_between a b number) + one_if (is_between b c number) ≡ one_if (is_between a c number)
between_both a b c number one two = grind (arith, nat_tests)

none_between : (a number : ℕ) → one_if (is_between a a number) ≡ 0
none_between a number = grind (arith, nat_tests)

not_between : (a b number : ℕ) → number < a → one_if (is_between a b number) ≡ 0
not_between a b number less = grind (arith, nat_tests)

is_none_if : (test : Bool) → one_if test ≡ 0 → Fails test
is_none_if true is = absurd (omega (arith, is))
is_none_if false is = refl

-- what doesn't wait and was there doesn't wait later
pub waits_no_more : {here : Here} {look : Look} {old new : Passed} → Built here look old new → (number : ℕ)
    → number < length old.headings → Fails (waits_in old.enclosing.waiting number) → Fails (waits_in new.enclosing.waiting number)
waits_no_more {old = old} {new = new} b number there none =
    is_none_if (waits_in new.enclosing.waiting number)
    (omega (arith, b.accounted number, ap one_if none, not_between (length old.headings) (length new.headings) number there))

pub and_grouped : (a b c : Bool) → (a && (b && c)) ≡ ((a && b) && c)
and_grouped true b c = refl
and_grouped false b c = refl

-- two numbers that are there alike
same_variable : {variables more : List Variable} (root other : ℕ) (first second : Variable) → IsLonger variables more → other ≡ root
    → slice_get variables root ≡ Some first → slice_get more other ≡ Some second → first ≡ second
same_variable {variables} {more} root other first second longer same one two =
    some_same (sym (ap (slice_get more) same ∙ get_longer longer root first one) ∙ two)
  where
    some_same : Some first ≡ Some second → first ≡ second
    some_same h = cc

pub contradicts : {b : Bool} → b ≡ true → b ≡ false → ⊥
contradicts one two = let same : true ≡ false = sym one ∙ two in absurd cc

-- a block that is over doesn't end again
pub ends_once : {here : Here} {look : Look} {old new : Passed} → Built here look old new → (block : ℕ)
    → IsOver here old block → 0 < count_of block (blocks_of_look look) → ⊥
ends_once {old = old} {new = new} b block over again =
    absurd (omega (arith, b.accounted block, ap one_if over.waits_not, not_between (length old.headings) (length new.headings) block over.there, again))

pub over_later : {here : Here} {look : Look} {old new : Passed} → Built here look old new → (block : ℕ)
    → IsOver here old block → IsOver here new block
over_later {old = old} {new = new} b block over = record {
  there = omega (arith, over.there, no_fewer old.headings new.headings b.grows.headings);
  waits_not = waits_no_more b block over.there over.waits_not;
  outside = over.outside;
}

more_there : (block : ℕ) (look more : Look) → 0 < count_of block (blocks_of_look look) → 0 < count_of block (blocks_of_look (look ++ more))
more_there block look more there =
    let both = ap (count_of block) (flat_map-append mark_blocks look more) ∙ count_append block (blocks_of_look look) (blocks_of_look more) in
    omega (arith, both, there)

more_behind : (block : ℕ) (look more : Look) → 0 < count_of block (blocks_of_look more) → 0 < count_of block (blocks_of_look (look ++ more))
more_behind block look more there =
    let both = ap (count_of block) (flat_map-append mark_blocks look more) ∙ count_append block (blocks_of_look look) (blocks_of_look more) in
    omega (arith, both, there)

-- in one of two parts
either_there : (a b n : ℕ) → 0 < n → n ≡ a + b → (0 < a) ⊎ (0 < b)
either_there zero b n some is = inr (omega (arith, some, is))
either_there (suc a) b n some is = inl (omega arith)

-- what is so of one part and of the other, is so of both
module _ {here : Here} {look more : Look} {old now new : Passed} (f : Built here look old now) (g : Built here more now new) where
  all_over : (block : ℕ) → 0 < count_of block (blocks_of_look (look ++ more)) → IsOver here new block
  all_over block there =
      let both = ap (count_of block) (flat_map-append mark_blocks look more) ∙ count_append block (blocks_of_look look) (blocks_of_look more) in
      by (either_there (count_of block (blocks_of_look look)) (count_of block (blocks_of_look more)) _ there both)
    where
      by : (0 < count_of block (blocks_of_look look)) ⊎ (0 < count_of block (blocks_of_look more)) → IsOver here new block
      by (inl first) = over_later g block (f.over block first)
      by (inr second) = g.over block second

  first_changed : (change : ℕ × ℕ) → IsChanged here look now change → IsChanged here (look ++ more) new change
  first_changed change c = record {
    variable = c.variable;
    is_there = get_longer g.grows.variables change.1 c.variable c.is_there;
    stands = by c.stands;
  }
    where
      by : ((is_round_here here c.variable.block ≡ true) × (list_any (nat_eq change.1) now.threatened ≡ true))
          ⊎ (0 < count_of c.variable.block (blocks_of_look look))
          → ((is_round_here here c.variable.block ≡ true) × (list_any (nat_eq change.1) new.threatened ≡ true))
          ⊎ (0 < count_of c.variable.block (blocks_of_look (look ++ more)))
      by (inl round) = inl (round.0, g.grows.threats change.1 round.1)
      by (inr ended) = inr (more_there c.variable.block look more ended)

  second_changed : (change : ℕ × ℕ) → IsChanged here more new change → IsChanged here (look ++ more) new change
  second_changed change c = record { variable = c.variable; is_there = c.is_there; stands = by c.stands }
    where
      by : ((is_round_here here c.variable.block ≡ true) × (list_any (nat_eq change.1) new.threatened ≡ true))
          ⊎ (0 < count_of c.variable.block (blocks_of_look more))
          → ((is_round_here here c.variable.block ≡ true) × (list_any (nat_eq change.1) new.threatened ≡ true))
          ⊎ (0 < count_of c.variable.block (blocks_of_look (look ++ more)))
      by (inl round) = inl round
      by (inr ended) = inr (more_behind c.variable.block look more ended)

  all_changed : Each (IsChanged here (look ++ more) new) (in_blocks mark_changes (look ++ more))
  all_changed =
      subst (Each (IsChanged here (look ++ more) new)) (sym (f.placed mark_changes more))
      (each_append (IsChanged here (look ++ more) new) (in_blocks mark_changes look) (in_blocks mark_changes more)
      (each_more (IsChanged here look now) (IsChanged here (look ++ more) new) (in_blocks mark_changes look) first_changed f.changed)
      (each_more (IsChanged here more new) (IsChanged here (look ++ more) new) (in_blocks mark_changes more) second_changed g.changed))

  all_controlled : Each (IsControlled (look ++ more) new) (in_blocks mark_controls (look ++ more))
  all_controlled =
      subst (Each (IsControlled (look ++ more) new)) (sym (f.placed mark_controls more))
      (each_append (IsControlled (look ++ more) new) (in_blocks mark_controls look) (in_blocks mark_controls more)
      (each_more (IsControlled look now) (IsControlled (look ++ more) new) (in_blocks mark_controls look) (λ control c. record {
        variable = c.variable;
        is_there = get_longer g.grows.variables control.1 c.variable c.is_there;
        own = c.own;
        ended = more_there control.0 look more c.ended;
      }) f.controlled)
      (each_more (IsControlled more new) (IsControlled (look ++ more) new) (in_blocks mark_controls more) (λ control c. record {
        variable = c.variable;
        is_there = c.is_there;
        own = c.own;
        ended = more_behind control.0 look more c.ended;
      }) g.controlled))

  abbrev Apart : ℕ × ℕ → ℕ × ℕ → Type 0
  Apart control change = change.1 ≡ control.1 → change.0 ≡ control.0

  first_apart : (control change : ℕ × ℕ) → IsControlled look now control → IsChanged here more new change → Apart control change
  first_apart control change c x same =
      let alike = same_variable control.1 change.1 c.variable x.variable g.grows.variables same c.is_there x.is_there in
      let block : x.variable.block ≡ control.0 = ap (λ (v : Variable). v.block) (sym alike) ∙ c.own in
      absurd (by block x.stands)
    where
      by : x.variable.block ≡ control.0
          → ((is_round_here here x.variable.block ≡ true) × (list_any (nat_eq change.1) new.threatened ≡ true))
          ⊎ (0 < count_of x.variable.block (blocks_of_look more)) → ⊥
      by block (inl round) = contradicts (ap (is_round_here here) (sym block) ∙ round.0) (f.over control.0 c.ended).outside
      by block (inr ended) = ends_once g control.0 (f.over control.0 c.ended) (subst (λ n. 0 < count_of n (blocks_of_look more)) block ended)

  second_apart : (control change : ℕ × ℕ) → IsControlled more new control → IsChanged here look now change → Apart control change
  second_apart control change c x same =
      let alike = same_variable change.1 control.1 x.variable c.variable g.grows.variables (sym same) x.is_there c.is_there in
      let block : x.variable.block ≡ control.0 = ap (λ (v : Variable). v.block) alike ∙ c.own in
      absurd (by block x.stands)
    where
      by : x.variable.block ≡ control.0
          → ((is_round_here here x.variable.block ≡ true) × (list_any (nat_eq change.1) now.threatened ≡ true))
          ⊎ (0 < count_of x.variable.block (blocks_of_look look)) → ⊥
      by block (inl round) = contradicts (ap (is_round_here here) (sym block) ∙ round.0) (g.over control.0 c.ended).outside
      by block (inr ended) =
          ends_once g control.0 (f.over control.0 (subst (λ n. 0 < count_of n (blocks_of_look look)) block ended)) c.ended

  all_unthreatened : AreUnthreatened (look ++ more)
  all_unthreatened =
      let controls = in_blocks mark_controls look in
      let others = in_blocks mark_controls more in
      let changes = in_blocks mark_changes look in
      let behind = in_blocks mark_changes more in
      subst (λ xs. Each (λ x. Each (Apart x) (in_blocks mark_changes (look ++ more))) xs) (sym (f.placed mark_controls more))
      (subst (λ ys. Each (λ x. Each (Apart x) ys) (controls ++ others)) (sym (f.placed mark_changes more))
      (each_square Apart controls others changes behind f.unthreatened
      (each_pair (IsControlled look now) (IsChanged here more new) Apart controls behind first_apart f.controlled g.changed)
      (each_pair (IsControlled more new) (IsChanged here look now) Apart others changes second_apart g.controlled f.changed) g.unthreatened))

pub built_then : {here : Here} {look more : Look} {old now new : Passed} → Built here look old now → Built here more now new
    → Built here (look ++ more) old new
built_then {here} {look} {more} {old} {now} {new} f g = record {
  grows = grow_then f.grows g.grows;
  formed = λ o h. f.parts o more ∙ both_true _ _ (f.formed o (further_still (built_further g) h)) (g.formed o h);
  parts = λ o rest.
      ap (are_formed o) (append_assoc look more rest) ∙ f.parts o (more ++ rest) ∙ ap (λ b. are_formed o look && b) (g.parts o rest)
      ∙ and_grouped (are_formed o look) (are_formed o more) (are_formed o rest)
      ∙ ap (λ b. b && are_formed o rest) (sym (f.parts o more));
  ends = ends_append (reached new) look more (ends_later (reached now) (reached new) look (built_further g) f.ends) g.ends;
  accounted = λ number.
      let blocks = ap (count_of number) (flat_map-append mark_blocks look more) ∙ count_append number (blocks_of_look look) (blocks_of_look more) in
      let between = between_both (length old.headings) (length now.headings) (length new.headings) number
      (no_fewer old.headings now.headings f.grows.headings) (no_fewer now.headings new.headings g.grows.headings) in
      omega (arith, blocks, f.accounted number, g.accounted number, between);
  others = λ number there other none.
      let still : number < length now.headings = omega (arith, there, no_fewer old.headings now.headings f.grows.headings) in
      g.others number still other (waits_no_more f number there none) ∙ f.others number there other none;
  placed = λ roots rest.
      ap (in_blocks roots) (append_assoc look more rest) ∙ f.placed roots (more ++ rest) ∙ ap (λ l. in_blocks roots look ++ l) (g.placed roots rest)
      ∙ sym (append_assoc (in_blocks roots look) (in_blocks roots more) (in_blocks roots rest))
      ∙ ap (λ l. l ++ in_blocks roots rest) (sym (f.placed roots more));
  over = all_over f g;
  changed = all_changed f g;
  controlled = all_controlled f g;
  unthreatened = all_unthreatened f g;
  controls_kept = g.controls_kept ∙ f.controls_kept;
  spared = spared_then [] look more f.spared g.spared;
  opened = opened_then [] [] [] look more f.opened g.opened;
}

-- a step that builds nothing
pub built_silent : {here : Here} {old new : Passed} → Way false (Of here.block) 0 0 [] old new → Built here [] old new
built_silent {here} {old} {new} way =
    let q = silent way in
    let same = ap (λ (e : Enclosing). e.waiting) q.enclosing in
    record {
      grows = grows way;
      formed = λ o h. refl;
      parts = λ o rest. refl;
      ends = tt;
      accounted = λ number.
          let waiting = ap (λ l. one_if (waits_in l number)) same in
          let as_many = ap (λ (l : List Headed). one_if (is_between (length old.headings) (length l) number)) q.headings in
          omega (arith, waiting, as_many, none_between (length old.headings) number);
      others = λ number there other none. q.others number other;
      placed = λ roots rest. refl;
      over = λ block there. absurd (omega (arith, there));
      changed = tt;
      controlled = tt;
      unthreatened = tt;
      controls_kept = same_controls way;
      spared = refl;
      opened = refl;
    }

-- ---- where a block stands

-- a routine that the block declared, and whose block didn't come yet
pub record IsOpen (here : Here) (s : Passed) (number : ℕ) : Type 0 where
  pub headed : Headed
  pub is_there : slice_get s.headings number ≡ Some headed
  pub around_it : headed.around ≡ here.around ++ here.block ∷ []
  pub cells : headed.cells ≡ cells_of_block s.types number s.variables
  pub other : Fails (nat_eq here.block number)

pub open_later : (here : Here) (old new : Passed) (number : ℕ) → IsLonger old.types new.types → HaveTypes old.types old.variables
    → IsLonger old.headings new.headings → variables_of number new.variables ≡ variables_of number old.variables → IsOpen here old number
    → IsOpen here new number
open_later here old new number types have headings same o = record {
  headed = o.headed;
  is_there = get_longer headings number o.headed o.is_there;
  around_it = o.around_it;
  cells = o.cells ∙ sym (ap (cells_in new.types) same ∙ block_cells_longer types number old.variables have);
  other = o.other;
}

-- what is known between the parts of a block
pub record Standing (here : Here) (under : List Region) (s : Passed) : Type 0 where
  pub ready : Ready here under here.block (heads_passed s.headings) s.variables s
  pub block : s.enclosing.block ≡ here.block
  pub around : s.enclosing.around ≡ here.around
  pub none_open : here.records ≡ []
  pub records : s.records ≡ []
  pub stands : StandsIn here (reached s)
  pub waiting : (number : ℕ) → waits_in s.enclosing.waiting number ≡ true → IsOpen here s number

pub standing_silent : {here : Here} {under : List Region} {old new : Passed} → Standing here under old → Way false (Of here.block) 0 0 [] old new
    → Ready here under here.block (heads_passed old.headings) new.variables new → Standing here under new
standing_silent {here} {under} {old} {new} st way ready =
    let q = silent way in
    let g = grows way in
    record {
      ready = subst (λ h. Ready here under here.block (heads_passed h) new.variables new) (sym q.headings) ready;
      block = ap (λ (e : Enclosing). e.block) q.enclosing ∙ st.block;
      around = ap (λ (e : Enclosing). e.around) q.enclosing ∙ st.around;
      none_open = st.none_open;
      records = q.records ∙ st.records;
      stands = stands_later here (reached old) (reached new) (further way) st.stands;
      waiting = λ number waits.
          let o = st.waiting number (ap (λ (e : Enclosing). waits_in e.waiting number) (sym q.enclosing) ∙ waits) in
          open_later here old new number g.types st.ready.base.have_types g.headings (q.others number o.other) o;
    }

-- ---- parts of a block

-- with such sites
abbrev pub LeavesBuilt : Here → List Region → (List Stood → Type 0) → Passed → After (Unit {0}) → Type 0
LeavesBuilt here under Has s a = Built here a.look s a.passed × Sited Has s a.passed × Standing here under a.passed

pub record Builds (here : Here) (under : List Region) (Has : List Stood → Type 0) (p : Passing (Unit {0})) : Type 0 where
  pub builds : (s : Passed) (a : After (Unit {0})) → p s ≡ Ok a → Standing here under s → LeavesBuilt here under Has s a

module _ {here : Here} {under : List Region} where
  pub builds_then : {First Second Both : List Stood → Type 0} {p q : Passing (Unit {0})} → ((a b : List Stood) → First a → Second b → Both (a ++ b))
      → Builds here under First p → Builds here under Second q → Builds here under Both (p >> q)
  builds_then {First} {Second} {Both} {p} {q} joined first rest = record {
    builds = λ s a is st.
        let x = parts_of p (λ _. q) s a is in
        let one = first.builds s x.first x.goes st in
        let two = rest.builds x.first.passed x.second x.goes_on one.2 in
        subst (LeavesBuilt here under Both s) x.both (built_then one.0 two.0, sited_then joined one.1 two.1, two.2);
  }

  pub builds_more : {Has Had : List Stood → Type 0} {p : Passing (Unit {0})} → ((a : List Stood) → Has a → Had a) → Builds here under Has p
      → Builds here under Had p
  builds_more has law = record {
    builds = λ s a is st.
        let one = law.builds s a is st in
        (one.0, sited_more has one.1, one.2);
  }

  -- a step among declarations
  pub keeps_builds : {p : Passing (Unit {0})} {Also : Passed → Type 0} → ((s : Passed) → Standing here under s → Also s)
      → ((heads : List Head) → here.block < length heads
      → Keeps here.block (λ s. Ready here under here.block heads s.variables s × Also s) p (λ _ s. Ready here under here.block heads s.variables s × Also s))
      → Builds here under (λ added. added ≡ []) p
  keeps_builds {p} {Also} also law = record {
    builds = λ s a is st.
        let k = (law (heads_passed s.headings) (block_there s st)).keeps s a is (st.ready, also s st) in
        let way = subst (λ l. Way false (Of here.block) 0 0 l s a.passed) (no_mark k.0) k.0 in (
          subst (λ l. Built here l s a.passed) (sym (no_mark k.0)) (built_silent {here = here} way),
          no_sites (silent k.0).sites (silent k.0).points,
          standing_silent st way k.1.0,
        );
  }
    where
      block_there : (s : Passed) → Standing here under s → here.block < length (heads_passed s.headings)
      block_there s st =
          omega (
            arith,
            slice_get_within (map signature_passed s.headings) here.block st.stands.0 st.stands.1,
            length-map (map signature_passed s.headings) head_of,
          )
