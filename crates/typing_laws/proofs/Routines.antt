-- What a routine does as far as its block: a heading that is new, or one that waits for its block; and `forward`.
use Rattle.std.proofs.Common.{◌≡◌, ℕ, ◌+◌, ◌<◌, Bool, true, false, not, ◌||◌, ◌&&◌, nat_eq, nat_lt, nat_le, if◌then◌else◌, List, [], ◌∷◌, ◌++◌, length, Option}
use Rattle.std.proofs.Common.{Some, None, Ok, is_none, slice_get, refl, sym, ap, subst, ◌∙◌, arith, inl, inr, ◌⊎◌, length-append}
use Rattle.std.specs.List.{list_all}
use Rattle.std.specs.Map.{lookup}
use Rattle.std.proofs.lemmas.Bool.{eq-eqb}
use Rattle.std.proofs.lemmas.Bool.Decides.{nat_tests}
use Rattle.std.proofs.lemmas.Option.{slice_get_within}
use Rattle.place.specs.declared.Place.{Place}
use Rattle.syntax_tree.specs.declared.Name.{Name}
use Rattle.syntax_tree.specs.declared.FormalGroup.{FormalGroup}
use Rattle.syntax_tree.specs.declared.Heading.{Heading}
use Rattle.syntax_tree.specs.declared.Heading.TheVariants.{Procedure, Function, Resumed}
use Rattle.scopes.specs.Scopes.{Region, said, innermost}
use Rattle.scopes.specs.declared.denotation.Denotation.{Denotation}
use Rattle.scopes.specs.declared.denotation.Denotation.TheVariants as denotes
use Rattle.typed_tree.specs.declared.fault.TypeFault.TheVariants as fault
use Rattle.typed_tree.specs.declared.tree.Variable.{Variable}
use Rattle.typed_tree.specs.WellFormed.{is_one_of, most_blocks, most_numbered, of_one, variables_of}
use Rattle.typing.specs.Names.{folded}
use Rattle.typing.specs.Passing.{Enclosing, Passed, After, Passing, after, pure, ◌>>=◌, ◌>>◌}
use Rattle.typing_rules.specs.Checked.{Checked}
use Rattle.typing.specs.Steps.{declare, may_nest, next_block}
use Rattle.typing.specs.Routines.{Begun, begun, headed, heading, is_same_kind, is_waiting, new_heading, or_mismatched, or_new, procedure_headed, resumed}
use Rattle.typing.specs.Routines.{waiting_for, waits}
use Rattle.typing_laws.proofs.Built.{IsOpen, Standing, open_later}
use Rattle.typing_laws.proofs.Declarations.{declare_is, declare_keeps}
use Rattle.typing_laws.proofs.Headings.{HeadingAdded, Entering, declarer_last, heading_adds, heads_count, quiet_parts}
use Rattle.typing_laws.proofs.Grown.{grown_further}
use Rattle.typing_laws.proofs.Went.{Grows, no_mark}
use Rattle.typing_laws.proofs.Keeping.{Ready}
use Rattle.typing_laws.proofs.Owned.{Fails, other_block}
use Rattle.typing_laws.proofs.Reached.{IsLonger, as_long, one_longer, get_last, get_mapped, signature_passed, Head, reached, Here}
use Rattle.typing_laws.proofs.Reached.{is_round_here, stands_later}
use Rattle.typing_laws.proofs.Ready.{base_blocks, heads_passed}
use Rattle.typing_laws.proofs.Sound.{IsRoutine, inside_itself, regions_later}
use Rattle.typing_laws.proofs.Steps.{below, split_if, split_unless}
use Rattle.typing_laws.proofs.Strings.{behind_nothing}
use Rattle.typing_laws.proofs.Waiting.{waits_in}

-- ---- a new heading

-- with one head more, of a block that comes
ready_heads : (here : Here) (under : List Region) (heads : List Head) (head : Head) (s : Passed) → length heads < most_numbered
    → Ready here under here.block heads s.variables s → Ready here under here.block (heads ++ head ∷ []) s.variables s
ready_heads here under heads head s room r = record {
  sound = regions_later inside_itself as_long as_long (one_longer heads head) s.regions r.sound;
  under_it = r.under_it;
  base =
      let one_more = length-append heads (head ∷ []) in
      base_blocks s.types s.variables s.headings (length heads) (length (heads ++ head ∷ [])) (omega (arith, one_more)) (omega (arith, room, one_more))
      r.base;
  texts = r.texts;
  cells = r.cells;
}

-- what a new heading leaves
pub record Began (here : Here) (under : List Region) (number : ℕ) (old new : Passed) : Type 0 where
  pub number_is : number ≡ length old.headings
  pub sites : new.sites ≡ old.sites
  pub points : new.points ≡ old.points
  pub controls_kept : new.controls ≡ old.controls
  pub grows : Grows old new
  pub one_more : length new.headings ≡ length old.headings + 1
  pub waiting : new.enclosing.waiting ≡ old.enclosing.waiting
  pub others : (block : ℕ) → block < length old.headings → Fails (nat_eq here.block block) → variables_of block new.variables ≡ variables_of block old.variables
  pub standing : Standing here under new
  pub is_open : IsOpen here new number

module _ (here : Here) (under : List Region) where
  nested_few : (place : Place) (s : Passed) (a : After (Unit {0})) → may_nest place s ≡ Ok a
      → (nat_lt (length s.enclosing.around + 1) most_blocks ≡ true) × (after tt [] s ≡ a)
  unfolding may_nest
  nested_few place s a is = split_if (nat_lt (length s.enclosing.around + 1) most_blocks) (fault.NestedTooDeep place) (after tt [] s) a is

  next_is : (place : Place) (s : Passed) (a : After ℕ) → next_block place s ≡ Ok a
      → (length s.headings < most_numbered) × (after (length s.headings) [] s ≡ a)
  unfolding next_block
  next_is place s a is =
      let next = split_unless (nat_le most_numbered (length s.headings)) (fault.TooMany place) (after (length s.headings) [] s) a is in
      (below most_numbered (length s.headings) next.0, next.1)

  less_is : (a b : ℕ) → nat_lt a b ≡ true → a < b
  less_is a b h = grind (arith, nat_tests)

  -- from where the routine's name is declared
  record Named (name : Name) (groups : List FormalGroup) (of_result : Option Name) (s : Passed) (a : After ℕ) : Type 0 where
    pub few : nat_lt (length s.enclosing.around + 1) most_blocks ≡ true
    pub room : length s.headings < most_numbered
    pub is :
        (declare name (denotes.Routine (length s.headings) (not (is_none of_result)))
        >> (heading (length s.headings) name groups of_result >> pure (length s.headings))) s
        ≡ Ok a

  named : (name : Name) (groups : List FormalGroup) (of_result : Option Name) (s : Passed) (a : After ℕ) → new_heading name groups of_result s ≡ Ok a
      → Named name groups of_result s a
  unfolding new_heading
  named name groups of_result s a is =
      let behind : ℕ → Passing ℕ = λ number.
      declare name (denotes.Routine number (not (is_none of_result))) >> (heading number name groups of_result >> pure number) in
      let x = quiet_parts (may_nest name.place) (λ _. next_block name.place >>= behind) s a is
      (λ b goes. ap (λ (c : After (Unit {0})). c.look) (sym (nested_few name.place s b goes).1)) in
      let few = nested_few name.place s x.0 x.1 in
      let on : (next_block name.place >>= behind) s ≡ Ok a =
      subst (λ (c : After (Unit {0})). (next_block name.place >>= behind) c.passed ≡ Ok a) (sym few.1) x.2 in
      let y = quiet_parts (next_block name.place) behind s a on (λ b goes. ap (λ (c : After ℕ). c.look) (sym (next_is name.place s b goes).1)) in
      let next = next_is name.place s y.0 y.1 in
      record { few = few.0; room = next.0; is = subst (λ (c : After ℕ). behind c.answer c.passed ≡ Ok a) (sym next.1) y.2 }

  pub new_begins : (name : Name) (groups : List FormalGroup) (of_result : Option Name) (s : Passed) (a : After ℕ) → Standing here under s
      → new_heading name groups of_result s ≡ Ok a → (a.look ≡ []) × Began here under a.answer s a.passed
  new_begins name groups of_result s a st is =
      let number = length s.headings in
      let function = not (is_none of_result) in
      let head : Head = record { around = here.around ++ here.block ∷ []; is_function = function } in
      let heads = heads_passed s.headings ++ head ∷ [] in
      let n = named name groups of_result s a is in
      let room : length (heads_passed s.headings) < most_numbered = omega (arith, n.room, heads_count s.headings) in
      let ready = ready_heads here under (heads_passed s.headings) head s room st.ready in
      let at_number : slice_get heads number ≡ Some head =
      ap (slice_get heads) (sym (heads_count s.headings)) ∙ get_last (heads_passed s.headings) head in
      let own = eq-eqb here.block here.block refl in
      let routine : IsRoutine here heads number function = record {
        head = head;
        is_there = at_number;
        is_visible = ap (of_one (is_round_here here)) (declarer_last here.around here.block) ∙ ap (λ b. b || is_one_of here.around here.block) own;
        of_kind = refl;
      } in
      let declared = declare_keeps here under here.block heads name (denotes.Routine number function) (λ s. s.variables) (λ s regions. refl) in
      let rest : Unit {0} → Passing ℕ = λ _. heading number name groups of_result >> pure number in
      let x = quiet_parts (declare name (denotes.Routine number function)) rest s a n.is (λ b goes. no_mark (declared.keeps s b goes (ready, routine)).0) in
      let k = declared.keeps s x.0 x.1 (ready, routine) in
      let d = declare_is here under here.block heads name (denotes.Routine number function) s x.0 x.1 in
      let s1 : Passed = record s { regions = d.0 } in
      let ready1 : Ready here under here.block heads s1.variables s1 =
      subst (λ (c : After (Unit {0})). Ready here under here.block heads c.passed.variables c.passed) (sym d.1) k.1 in
      let on : rest tt s1 ≡ Ok a = subst (λ (c : After (Unit {0})). rest tt c.passed ≡ Ok a) (sym d.1) x.2 in
      let entering : Entering here under number head s1 = record {
        ready = ready1;
        block = st.block;
        around = st.around;
        none_open = st.none_open;
        stands = st.stands;
        number_is = refl;
        owned = subst (λ m. list_all (λ (v : Variable). nat_lt v.block m) s.variables ≡ true) (heads_count s.headings) st.ready.base.by_blocks;
        few_round = less_is (length here.around + 1) most_blocks (ap (λ l. nat_lt (length l + 1) most_blocks) (sym st.around) ∙ n.few);
        around_it = refl;
      } in
      let y = quiet_parts (heading number name groups of_result) (λ _. pure number) s1 a on
      (λ b goes. (heading_adds here under number name groups of_result s1 b entering goes).0) in
      let added = (heading_adds here under number name groups of_result s1 y.0 entering y.1).1 in
      let last : after number [] y.0.passed ≡ a = ok_is y.2 in
      subst (λ (c : After ℕ). (c.look ≡ []) × Began here under c.answer s c.passed) last (refl, began s d.0 y.0.passed st added)
    where
      ok_is : {b c : After ℕ} → ◌≡◌ {A = Checked (After ℕ)} (Ok b) (Ok c) → b ≡ c
      ok_is h = cc

      began : (s : Passed) (regions : List Region) (new : Passed) → Standing here under s
          → HeadingAdded here under (length s.headings) (record s { regions = regions }) new → Began here under (length s.headings) s new
      began s regions new st added =
          let number = length s.headings in
          let at = get_mapped signature_passed s.headings here.block st.stands.0 st.stands.1 in
          let within_it = slice_get_within s.headings here.block at.0 at.1 in
          let longer : IsLonger s.headings new.headings = record { more = added.headed ∷ []; goes_on = added.headings } in
          let others : (block : ℕ) → block < number → Fails (nat_eq here.block block)
          → variables_of block new.variables ≡ variables_of block s.variables =
          λ block less other. added.others block (other_block number block (λ same. omega (arith, same, less))) in
          record {
            number_is = refl;
            sites = added.sites;
            points = added.points;
            controls_kept = added.controls_kept;
            grows = added.grows;
            one_more = ap length added.headings ∙ length-append s.headings (added.headed ∷ []);
            waiting = ap (λ (e : Enclosing). e.waiting) added.enclosing;
            others = others;
            standing = record {
              ready = added.ready;
              block = ap (λ (e : Enclosing). e.block) added.enclosing ∙ st.block;
              around = ap (λ (e : Enclosing). e.around) added.enclosing ∙ st.around;
              none_open = st.none_open;
              records = added.records_kept ∙ st.records;
              stands = stands_later here (reached s) (reached new) (grown_further s new added.grows added.controls_kept) st.stands;
              waiting = λ block waits.
                  let o = st.waiting block (ap (λ (e : Enclosing). waits_in e.waiting block) (sym added.enclosing) ∙ waits) in
                  let less = slice_get_within s.headings block o.headed o.is_there in
                  open_later here s new block added.grows.types st.ready.base.have_types longer (others block less o.other) o;
            };
            is_open = record {
              headed = added.headed;
              is_there = ap (λ l. slice_get l number) added.headings ∙ get_last s.headings added.headed;
              around_it = added.around;
              cells = added.cells;
              other = other_block here.block number (λ same. omega (arith, same, within_it));
            };
          }

-- ---- the directive forward, and the heading of a block

-- a heading whose block, or `forward`, comes next: new, or one that waits
abbrev pub Begins : Here → List Region → Begun → Passed → Passed → Type 0
Begins here under b old new =
    ((b.is_first ≡ true) × Began here under b.number old new)
    ⊎ ((b.is_first ≡ false) × (waits_in old.enclosing.waiting b.number ≡ true) × (old ≡ new))

waits_is : (is_function : Bool) (waiting : List (ℕ × Option Place)) (says : Option (Option Denotation)) (number : ℕ)
    → waits is_function waiting says ≡ Some number → waits_in waiting number ≡ true
waits_is is_function waiting (Some (Some (denotes.Routine block of_function))) number is =
    by (is_waiting (lookup (nat_eq block) waiting)) (is_same_kind is_function of_function) refl is
  where
    by : (one two : Bool) → waits_in waiting block ≡ one → (if one && two then Some block else None) ≡ Some number → waits_in waiting number ≡ true
    by true true waits h = let same : block ≡ number = cc in ap (waits_in waiting) (sym same) ∙ waits
    by true false waits h = absurd cc
    by false two waits h = absurd cc
waits_is is_function waiting other number is = absurd cc

module _ (here : Here) (under : List Region) where
  abbrev LeavesBegun : Passed → After Begun → Type 0
  LeavesBegun s a = (a.look ≡ []) × Begins here under a.answer s a.passed

  begun_begins : (name : Name) (groups : List FormalGroup) (of_result : Option Name) (s : Passed) (a : After Begun) → Standing here under s
      → begun name groups of_result s ≡ Ok a → LeavesBegun s a
  begun_begins name groups of_result s a st is =
      let rest : ℕ → Passing Begun = λ number. pure (record { number = number; is_first = true }) in
      let x = quiet_parts (new_heading name groups of_result) rest s a is (λ b goes. (new_begins here under name groups of_result s b st goes).0) in
      let one = (new_begins here under name groups of_result s x.0 st x.1).1 in
      let same : after (record { number = x.0.answer; is_first = true }) [] x.0.passed ≡ a = ok_is x.2 in
      subst (LeavesBegun s) same (refl, inl (refl, one))
    where
      ok_is : {b c : After Begun} → ◌≡◌ {A = Checked (After Begun)} (Ok b) (Ok c) → b ≡ c
      ok_is h = cc

  resumed_begins : (number : ℕ) (s : Passed) (a : After Begun) → waits_in s.enclosing.waiting number ≡ true → resumed number s ≡ Ok a → LeavesBegun s a
  resumed_begins number s a waits is =
      let same : after (record { number = number; is_first = false }) [] s ≡ a = cc in
      subst (LeavesBegun s) same (refl, inr (refl, waits, refl))

  waiting_goes : (is_function : Bool) (name : Name) (f : Option ℕ → Passing Begun) (s : Passed) (a : After Begun)
      → (waiting_for is_function name >>= f) s ≡ Ok a
      → (found : Option ℕ) × ((number : ℕ) → found ≡ Some number → waits_in s.enclosing.waiting number ≡ true) × (f found s ≡ Ok a)
  unfolding waiting_for
  waiting_goes is_function name f s a is =
      let says = said (innermost s.regions) (folded name.text.now) in
      let found = waits is_function s.enclosing.waiting says in
      (found, λ number same. waits_is is_function s.enclosing.waiting says number same, sym (behind_nothing (f found s)) ∙ is)

  new_or_resumed : (name : Name) (found : Option ℕ) (s : Passed) (a : After Begun) → Standing here under s
      → ((number : ℕ) → found ≡ Some number → waits_in s.enclosing.waiting number ≡ true) → or_new name found s ≡ Ok a → LeavesBegun s a
  new_or_resumed name None s a st waits is = begun_begins name [] None s a st is
  new_or_resumed name (Some number) s a st waits is = resumed_begins number s a (waits number refl) is

  mismatched_or_resumed : (name : Name) (found : Option ℕ) (s : Passed) (a : After Begun)
      → ((number : ℕ) → found ≡ Some number → waits_in s.enclosing.waiting number ≡ true) → or_mismatched name found s ≡ Ok a → LeavesBegun s a
  mismatched_or_resumed name None s a waits is = absurd cc
  mismatched_or_resumed name (Some number) s a waits is = resumed_begins number s a (waits number refl) is

  procedure_begins : (name : Name) (groups : List FormalGroup) (s : Passed) (a : After Begun) → Standing here under s → procedure_headed name groups s ≡ Ok a
      → LeavesBegun s a
  procedure_begins name [] s a st is =
      let x = waiting_goes false name (or_new name) s a is in
      new_or_resumed name x.0 s a st x.1 x.2
  procedure_begins name (g ∷ groups) s a st is = begun_begins name (g ∷ groups) None s a st is

  pub headed_begins : (h : Heading) (s : Passed) (a : After Begun) → Standing here under s → headed h s ≡ Ok a → LeavesBegun s a
  headed_begins (Procedure name formals) s a st is = procedure_begins name formals.items s a st is
  headed_begins (Function name formals of_result) s a st is = begun_begins name formals.items (Some of_result) s a st is
  headed_begins (Resumed name) s a st is =
      let x = waiting_goes true name (or_mismatched name) s a is in
      mismatched_or_resumed name x.0 s a x.1 x.2
