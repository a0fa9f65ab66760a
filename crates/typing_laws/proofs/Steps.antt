-- What the steps of typing do, and what they do one after another.
use Rattle.std.proofs.Common.{◌≡◌, ℕ, ◌+◌, ◌-◌, ◌<◌, Bool, true, false, nat_eq, nat_le, take, Result, List, [], ◌∷◌, ◌++◌, length, Option, Some, None, Ok, Err}
use Rattle.std.proofs.Common.{if◌then◌else◌, get_or, slice_get, ◌&&◌, not, append-nil, length-append, refl, sym, ap, subst, ◌∙◌, arith, ◌||◌}
use Rattle.std.specs.List.{list_any, list_all, flat_map}
use Rattle.std.specs.Option.{option_and_then}
use Rattle.std.proofs.lemmas.Grind.{flat_map-append}
use Rattle.std.proofs.lemmas.List.Folds.{list_all-append, list_any-append}
use Rattle.std.proofs.lemmas.Bool.{eq-eqb}
use Rattle.place.specs.declared.Place.{Place}
use Rattle.syntax_tree.specs.declared.Name.{Name}
use Rattle.types.specs.Forms.{Form}
use Rattle.types.specs.declared.form.TypeId.{TypeId}
use Rattle.types.specs.Types.{host_of}
use Rattle.scopes.specs.Scopes.{found}
use Rattle.scopes.specs.declared.denotation.Denotation.{Denotation}
use Rattle.scopes.specs.declared.denotation.File.{File}
use Rattle.scopes.specs.declared.fault.ScopeFault.{ScopeFault}
use Rattle.typed_tree.specs.declared.tree.Variable.{Variable}
use Rattle.typed_tree.specs.declared.fault.TypeFault.{TypeFault}
use Rattle.typed_tree.specs.declared.fault.TypeFault.TheVariants as fault
use Rattle.typed_tree.specs.declared.site.SiteKind.{SiteKind}
use Rattle.typed_tree.specs.WellFormed.{Outline, are_characters, is_local_kind, most_entries, most_numbered}
use Rattle.typed_tree.specs.Threats.{is_none_of}
use Rattle.typed_tree.specs.Look.{For, Controls, ForEnds, Mark, Look, is_formed_mark}
use Rattle.typing.specs.Passing.{Enclosing, Passed, After, Passing, after, pure, fail, given, by_types, mark, behind_marks, ◌>>=◌, ◌>>?◌}
use Rattle.typing_rules.specs.Checked.{Checked, and_then}
use Rattle.typing.specs.Steps.{most_sites, pass, enter, enter_as, number_loop, begin_loop, enter_loop, site, find, may_change}
use Rattle.typing_rules.specs.Checked.{told}
use Rattle.typing.specs.Steps.{begin_control, end_control, has_file, wants_file, point, host_type, text_at, keep_text, is_own, is_local, may_control, with_one}
use Rattle.typing.specs.Steps.{with_threatened, enclosing_now, heading_at, variable_at, program_heading}
use Rattle.typing.specs.Expressions.{behind}
use Rattle.typing.specs.Statements.{for_body}
use Rattle.typing.specs.Names.{folded}
pub use Rattle.typing.proofs.Ways.{below}
use Rattle.typing.proofs.Ways.{numbers_of, Nobody, Way, Stay, One, Controlled, Token, Entry, Loop, Marked, Site, Point, Threat, Text, Assigned, with_result}
use Rattle.typing_laws.proofs.Covers.{Stood, at_place}
use Rattle.typing_laws.proofs.Grown.{heads_of, FitsHeading, Fine, Grown, Sited, sited_then, sited_more, further, fine_later, grown_then, both_true, IsFree}
use Rattle.typing_laws.proofs.Reached.{get_longer, get_mapped, get_or_is, Signature, signature_passed, Reached, reached, whole_of, IsFurther}
use Rattle.typing_laws.proofs.Reached.{as_far, further_still, Here, StandsIn}
use Rattle.typing_laws.proofs.Sound.{IsSound, found_holds, IsVariable, or_right}
use Rattle.typing_laws.proofs.Tables.{AreLawful, AreTexts, texts_more}
use Rattle.typing_laws.specs.Controls.{Each, is_bracket, mark_changes, mark_controls, spared_behind}
use Rattle.typing_laws.specs.Results.{is_target}
use Rattle.typing_laws.proofs.Kept.{MayChange, change_later, changes_of, controls_of, each_more}
use Rattle.typing_laws.proofs.Went.{ended_control, same_controls}
use Rattle.typing_laws.proofs.Spared.{AreHeld, apart_held, one_mark, spared_append}
use Rattle.typing_laws.proofs.Opened.{one_opened, open_in, opened_then}
use Rattle.typing_laws.specs.Opened.{mark_opened}

-- a form has grown what is known, with such sites, and its answer has this
abbrev pub PassingLeaves : {A : Type 0} → Here → (List Stood → Type 0) → Passed → (A → Reached → Type 0) → After A → Type 0
PassingLeaves here Has s Answers a = Grown here a.look s a.passed × Sited Has s a.passed × Answers a.answer (reached a.passed)

-- from at least so far on, its answer has this with as many sites and types as there are then
pub record PassingDoes (here : Here) (least : Reached) {A : Type 0} (Has : List Stood → Type 0) (p : Passing A)
    (Answers : A → Reached → Type 0) : Type 0 where
  pub does : (s : Passed) (a : After A) → p s ≡ Ok a → Fine here s → IsFurther least (reached s) → PassingLeaves here Has s Answers a

abbrev pub Anything : {A : Type 0} → A → Reached → Type 0
Anything answer now = Unit {0}

-- no site
abbrev pub Nothing : List Stood → Type 0
Nothing added = added ≡ []

-- ---- what an answer says of the parts

pub split : {A B : Type 0} (c : Checked A) (f : A → Checked B) (b : B) → and_then c f ≡ Ok b → (a : A) × (c ≡ Ok a) × (f a ≡ Ok b)
split (Ok a) f b h = (a, refl, h)
split (Err fault) f b h = absurd cc

pub split_behind : {A : Type 0} (look : Look) (c : Checked (After A)) (b : After A) → behind_marks look c ≡ Ok b
    → (a : After A) × (c ≡ Ok a) × (after a.answer (look ++ a.look) a.passed ≡ b)
split_behind look (Ok a) b h = (a, refl, cc)
split_behind look (Err fault) b h = absurd cc

pub split_unless : {A : Type 0} (test : Bool) (fault : TypeFault) (a b : A) → (if test then Err fault else Ok a) ≡ Ok b → (test ≡ false) × (a ≡ b)
split_unless true fault a b h = absurd cc
split_unless false fault a b h = (refl, cc)

pub split_if : {A : Type 0} (test : Bool) (fault : TypeFault) (a b : A) → (if test then Ok a else Err fault) ≡ Ok b → (test ≡ true) × (a ≡ b)
split_if true fault a b h = (refl, cc)
split_if false fault a b h = absurd cc

-- ---- one after another

pub joins : {here : Here} {least : Reached} {A B : Type 0} {First Second Both : List Stood → Type 0} {p : Passing A} {f : A → Passing B}
    {K : A → Reached → Type 0} {L : B → Reached → Type 0}
    → ((a b : List Stood) → First a → Second b → Both (a ++ b)) → PassingDoes here least First p K
    → ((x : A) (now : Reached) → IsFurther least now → K x now → PassingDoes here now Second (f x) L) → PassingDoes here least Both (p >>= f) L
joins {here} {least} {A} {B} {First} {Second} {Both} {p} {f} {K} {L} joined first rest = record {
  does = λ s b is fine h.
      let x = split (p s) (λ a. behind_marks a.look (f a.answer a.passed)) b is in
      let y = split_behind x.0.look (f x.0.answer x.0.passed) b x.2 in
      let one = first.does s x.0 x.1 fine h in
      let now : IsFurther least (reached x.0.passed) = further_still h (further one.0.way) in
      let two = (rest x.0.answer (reached x.0.passed) now one.2).does x.0.passed y.0 y.1 (fine_later one.0 fine) as_far in
      subst (PassingLeaves here Both s L) y.2 (grown_then one.0 two.0, sited_then joined one.1 two.1, two.2);
}

-- a step that adds no site, and then others
pub quietly : {here : Here} {least : Reached} {A B : Type 0} {Has : List Stood → Type 0} {p : Passing A} {f : A → Passing B}
    {K : A → Reached → Type 0} {L : B → Reached → Type 0}
    → PassingDoes here least Nothing p K
    → ((x : A) (now : Reached) → IsFurther least now → K x now → PassingDoes here now Has (f x) L) → PassingDoes here least Has (p >>= f) L
quietly {Has = Has} first rest = joins (λ a b none has. subst (λ l. Has (l ++ b)) (sym none) has) first rest

-- a step, and then others that add no site
pub last : {here : Here} {least : Reached} {A B : Type 0} {Has : List Stood → Type 0} {p : Passing A} {f : A → Passing B}
    {K : A → Reached → Type 0} {L : B → Reached → Type 0}
    → PassingDoes here least Has p K
    → ((x : A) (now : Reached) → IsFurther least now → K x now → PassingDoes here now Nothing (f x) L) → PassingDoes here least Has (p >>= f) L
last {Has = Has} first rest = joins (λ a b has none. subst Has (sym (append-nil a) ∙ ap (λ l. a ++ l) (sym none)) has) first rest

-- a form, and then a test of what it is, by the table of types
pub checks_types : {here : Here} {least : Reached} {A B : Type 0} {Has : List Stood → Type 0} {p : Passing A} {test : List Form → A → Checked B}
    {K : A → Reached → Type 0} {L : B → Reached → Type 0}
    → PassingDoes here least Has p K
    → ((types : List Form) (x : A) (b : B) (now : Reached) → IsFurther least now → now.types ≡ types → AreLawful types → test types x ≡ Ok b
    → K x now → L b now)
    → PassingDoes here least Has (p >>? test) L
checks_types {here} {least} {A} {B} {Has} {p} {test} {K} {L} first fits = record {
  does = λ s b is fine h.
      let x = split (p s) (λ a. and_then (test a.passed.types a.answer) (λ b. Ok (after b a.look a.passed))) b is in
      let y = split (test x.0.passed.types x.0.answer) (λ b. Ok (after b x.0.look x.0.passed)) b x.2 in
      let one = first.does s x.0 x.1 fine h in
      let same : after y.0 x.0.look x.0.passed ≡ b = cc in
      let known = further_still h (further one.0.way) in
      subst (PassingLeaves here Has s L) same
      (one.0, one.1, fits x.0.passed.types x.0.answer y.0 (reached x.0.passed) known refl one.0.lawful y.1 one.2);
}

-- whatever they are
pub checks : {here : Here} {least : Reached} {A B : Type 0} {Has : List Stood → Type 0} {p : Passing A} {test : List Form → A → Checked B}
    {K : A → Reached → Type 0} {L : B → Reached → Type 0}
    → PassingDoes here least Has p K
    → ((types : List Form) (x : A) (b : B) (now : Reached) → IsFurther least now → test types x ≡ Ok b → K x now → L b now)
    → PassingDoes here least Has (p >>? test) L
checks first fits = checks_types first (λ types x b now later same lawful. fits types x b now later)

-- the same, with something else that holds of its sites
pub sited : {here : Here} {least : Reached} {A : Type 0} {Has Had : List Stood → Type 0} {p : Passing A} {K : A → Reached → Type 0}
    → ((a : List Stood) → Has a → Had a)
    → PassingDoes here least Has p K → PassingDoes here least Had p K
sited has d = record {
  does = λ s a is fine h.
      let k = d.does s a is fine h in
      (k.0, sited_more has k.1, k.2);
}

-- the same, with something else that holds of its answer
pub answered : {here : Here} {least : Reached} {A : Type 0} {Has : List Stood → Type 0} {p : Passing A} {K L : A → Reached → Type 0}
    → ((x : A) (now : Reached) → K x now → L x now)
    → PassingDoes here least Has p K → PassingDoes here least Has p L
answered other d = record {
  does = λ s a is fine h.
      let k = d.does s a is fine h in
      (k.0, k.1, other a.answer (reached a.passed) k.2);
}

-- and what has come so far
pub further_answered : {here : Here} {least : Reached} {A : Type 0} {Has : List Stood → Type 0} {p : Passing A} {K L : A → Reached → Type 0}
    → PassingDoes here least Has p K → ((x : A) (now : Reached) → IsFurther least now → K x now → L x now) → PassingDoes here least Has p L
further_answered d other = record {
  does = λ s a is fine h.
      let k = d.does s a is fine h in
      (k.0, k.1, other a.answer (reached a.passed) (further_still h (further k.0.way)) k.2);
}

-- ---- steps that add no site and no point

pub no_sites : {s new : Passed} → new.sites ≡ s.sites → new.points ≡ s.points → Sited Nothing s new
no_sites {s} sites points =
    record { added = []; sites = sites ∙ sym (append-nil s.sites); points = points ∙ sym (append-nil s.points); covered = refl }

-- without a mark
pub grown_plain : {here : Here} {s new : Passed} → Way true Nobody 0 0 [] s new → AreLawful new.types → AreTexts new.texts
    → Grown here [] s new
grown_plain way lawful texts = record {
  way = way;
  lawful = lawful;
  texts = texts;
  changes = tt;
  controls = tt;
  formed = λ o h. refl;
  spared = λ roots held. refl;
  opened = refl;
}

-- a step that leaves the types, the texts, the sites and the points
pub silent_leaves : {here : Here} {A : Type 0} (K : A → Reached → Type 0) {s new : Passed} {x : A} {a : After A} → after x [] new ≡ a
    → Way true Nobody 0 0 [] s new → new.types ≡ s.types → new.texts ≡ s.texts → new.sites ≡ s.sites → new.points ≡ s.points → Fine here s
    → K x (reached new) → PassingLeaves here Nothing s K a
silent_leaves {here} K {s = s} same way types texts sites points fine known =
    subst (PassingLeaves here Nothing s K) same (
      grown_plain way (subst AreLawful (sym types) fine.lawful) (subst AreTexts (sym texts) fine.texts),
      no_sites sites points,
      known,
    )

pub pass_does : {here : Here} {least : Reached} (place : Place) → PassingDoes here least Nothing (pass place) Anything
unfolding pass
pass_does place = record {
  does = λ s a is fine h.
      let same : after tt [] (record s { latest = place }) ≡ a = cc in
      silent_leaves Anything same (One (Token place)) refl refl refl refl fine tt;
}

pub pure_does : {here : Here} {least : Reached} {A : Type 0} {K : A → Reached → Type 0} (x : A)
    → ((now : Reached) → IsFurther least now → K x now) → PassingDoes here least Nothing (pure x) K
pure_does {K = K} x known = record {
  does = λ s a is fine h. let same : after x [] s ≡ a = cc in silent_leaves K same Stay refl refl refl refl fine (known (reached s) h);
}

pub given_does : {here : Here} {least : Reached} {A : Type 0} (checked : Checked A)
    → PassingDoes here least Nothing (given checked) (λ x now. checked ≡ Ok x)
given_does checked = record {
  does = λ s a is fine h.
      let x = split checked (λ b. Ok (after b [] s)) a is in
      let same : after x.0 [] s ≡ a = cc in
      silent_leaves (λ x now. checked ≡ Ok x) same Stay refl refl refl refl fine x.1;
}

pub by_types_does : {here : Here} {least : Reached} {A : Type 0} (test : List Form → Checked A)
    → PassingDoes here least Nothing (by_types test) (λ x now. AreLawful now.types × (test now.types ≡ Ok x))
by_types_does test = record {
  does = λ s a is fine h.
      let x = split (test s.types) (λ b. Ok (after b [] s)) a is in
      let same : after x.0 [] s ≡ a = cc in
      silent_leaves (λ x now. AreLawful now.types × (test now.types ≡ Ok x)) same Stay refl refl refl refl fine (fine.lawful, x.1);
}

pub fail_does : {here : Here} {least : Reached} {A : Type 0} {Has : List Stood → Type 0} {K : A → Reached → Type 0} (why : TypeFault)
    → PassingDoes here least Has (fail {A = A} why) K
fail_does why = record { does = λ s a is fine h. absurd cc }

-- what is denoted in a block is sound there
abbrev pub IsSoundThen : Here → Denotation → Reached → Type 0
IsSoundThen here denotation now = IsSound here now.variables now.types (heads_of now) denotation

abbrev pub IsFound : Here → Denotation → Reached → Type 0
IsFound here denotation now = IsSoundThen here denotation now × StandsIn here now

-- a name denotes what is sound
pub find_does : {here : Here} {least : Reached} (name : Name)
    → PassingDoes here least Nothing (find name) (λ denotation now. IsFound here denotation now)
unfolding find
find_does {here} name = record {
  does = λ s a is fine h.
      let text = folded name.text.now in
      let x = split (told name.place (found s.regions text)) (λ denotation. Ok (after denotation [] (record s { latest = name.place }))) a is in
      let same : after x.0 [] (record s { latest = name.place }) ≡ a = cc in
      let there = found_holds (IsSound here s.variables s.types (heads_of (reached s))) s.regions text x.0 fine.sound (by (found s.regions text) x.0 x.1) in
      silent_leaves (IsFound here) same (One (Token name.place)) refl refl refl refl fine (there, fine.stands);
}
  where
    by : (r : Result Denotation ScopeFault) (d : Denotation) → told name.place r ≡ Ok d → r ≡ Ok d
    by (Ok d) e is = let same : d ≡ e = cc in ap Ok same
    by (Err why) e is = absurd cc

pub wants_file_does : {here : Here} {least : Reached} (one : File) (place : Place) → PassingDoes here least Nothing (wants_file one place) Anything
unfolding wants_file
wants_file_does {here} one place = record {
  does = λ s a is fine h.
      let x = split_if (has_file one s) (fault.NotProgramParameter place) (after tt [] s) a is in
      silent_leaves Anything x.1 Stay refl refl refl refl fine tt;
}

-- ---- marks

-- what may be changed is no control variable of a for statement round the place
all_apart : (here : Here) (s : Passed) (roots changes : List ℕ) → AreHeld roots s.controls → Each (MayChange here (reached s)) (changes ++ [])
    → list_all (is_none_of roots) changes ≡ true
all_apart here s roots [] held may = refl
all_apart here s roots (root ∷ changes) held may =
    both_true (is_none_of roots root) (list_all (is_none_of roots) changes) (apart_held roots s.controls root held may.0.apart)
    (all_apart here s roots changes held may.1)

-- a form that may stand where it does, and leaves the records that are open
abbrev pub IsOpenedIn : Here → Mark → Type 0
IsOpenedIn here one = mark_opened one (open_in here) ≡ Some (open_in here)

-- no entry, but well formed
marked_does : {here : Here} {least : Reached} (one : Mark) → numbers_of one ≡ ([], [], []) → is_bracket one ≡ false → IsOpenedIn here one
    → ((now : Reached) → IsFurther least now → Each (MayChange here now) (mark_changes one ++ [])) → mark_controls one ≡ []
    → ((o : Outline) → IsFurther least (whole_of o) → is_formed_mark o here.block one ≡ true)
    → PassingDoes here least Nothing (mark one) Anything
marked_does {here} {least} one none plain opens changes no_control formed = record {
  does = λ s a is fine h.
      let same : after tt (one ∷ []) s ≡ a = cc in
      subst (PassingLeaves here Nothing s Anything) same (
        record {
          way = One (Marked one none);
          lawful = fine.lawful;
          texts = fine.texts;
          changes = changes (reached s) h;
          controls = subst (λ (l : List ℕ). Each (IsFree here s s) (l ++ [])) (sym no_control) tt;
          formed = λ o more. both_true _ true (formed o (further_still h more)) refl;
          spared = λ roots held. one_mark one roots plain (all_apart here s roots (mark_changes one) held (changes (reached s) h));
          opened = one_opened one (open_in here) (open_in here) opens;
        },
        no_sites refl refl,
        tt,
      );
}

-- what changes nothing controls nothing
no_control : (one : Mark) → mark_changes one ≡ [] → mark_controls one ≡ []
no_control (For number loop_number place control direction) none = absurd cc
no_control other none = refl

pub mark_does : {here : Here} {least : Reached} (one : Mark) → numbers_of one ≡ ([], [], []) → mark_changes one ≡ [] → is_bracket one ≡ false
    → IsOpenedIn here one
    → ((o : Outline) → IsFurther least (whole_of o) → is_formed_mark o here.block one ≡ true)
    → PassingDoes here least Nothing (mark one) Anything
mark_does {here} one none no_change plain opens formed =
    marked_does one none plain opens (λ now more. subst (λ (l : List ℕ). Each (MayChange here now) (l ++ [])) (sym no_change) tt)
    (no_control one no_change) formed

-- one that changes a variable
pub change_does : {here : Here} {least : Reached} (one : Mark) (root : ℕ) → numbers_of one ≡ ([], [], []) → mark_changes one ≡ root ∷ []
    → mark_controls one ≡ [] → is_bracket one ≡ false → IsOpenedIn here one → MayChange here least root
    → ((o : Outline) → IsFurther least (whole_of o) → is_formed_mark o here.block one ≡ true) → PassingDoes here least Nothing (mark one) Anything
change_does {here} {least} one root none change no_control plain opens may formed =
    marked_does one none plain opens
    (λ now more. subst (λ (l : List ℕ). Each (MayChange here now) (l ++ [])) (sym change) (change_later here least now root more may, tt)) no_control formed

-- an entry, with the next number
pub enter_does : {here : Here} {least : Reached} (marked : ℕ → Mark) → ((k : ℕ) → numbers_of (marked k) ≡ (k ∷ [], [], []))
    → ((k : ℕ) → mark_changes (marked k) ≡ [])
    → ((k : ℕ) → is_bracket (marked k) ≡ false)
    → ((k : ℕ) → IsOpenedIn here (marked k))
    → ((k : ℕ) (o : Outline) → IsFurther least (whole_of o) → is_formed_mark o here.block (marked k) ≡ true)
    → PassingDoes here least Nothing (enter_as marked) Anything
unfolding enter
enter_does {here} {least} marked entry no_change plain opens formed = record {
  does = λ s a is fine h.
      let x = split (if nat_le most_entries s.entries then Err (fault.TooMany s.latest) else Ok (after s.entries [] (record s { entries = s.entries + 1 })))
      (λ b. behind_marks b.look (mark (marked b.answer) b.passed)) a is in
      let y = split_unless (nat_le most_entries s.entries) (fault.TooMany s.latest) (after s.entries [] (record s { entries = s.entries + 1 })) x.0 x.1 in
      let new : Passed = record s { entries = s.entries + 1 } in
      let number = s.entries in
      let same : after tt (marked s.entries ∷ []) new ≡ a = by x.0 a y.1 x.2 in
      subst (PassingLeaves here Nothing s Anything) same (
        record {
          way = One (Entry (marked number) (below most_entries s.entries y.0) (entry number));
          lawful = fine.lawful;
          texts = fine.texts;
          changes = subst (λ (l : List ℕ). Each (MayChange here (reached new)) (l ++ [])) (sym (no_change number)) tt;
          controls = subst (λ (l : List ℕ). Each (IsFree here s new) (l ++ [])) (sym (no_control (marked number) (no_change number))) tt;
          formed = λ o more. both_true _ true (formed number o (further_still h more)) refl;
          spared = λ roots held. one_mark (marked number) roots (plain number) (ap (list_all (is_none_of roots)) (no_change number));
          opened = one_opened (marked number) (open_in here) (open_in here) (opens number);
        },
        no_sites refl refl,
        tt,
      );
}
  where
    by : {new : Passed} {number : ℕ} (x : After ℕ) (a : After (Unit {0})) → after number [] new ≡ x
        → behind_marks x.look (mark (marked x.answer) x.passed) ≡ Ok a → after tt (marked number ∷ []) new ≡ a
    by {new} {number} x a is h =
        let there : behind_marks [] (mark (marked number) new) ≡ Ok a =
        subst (λ (z : After ℕ). behind_marks z.look (mark (marked z.answer) z.passed) ≡ Ok a) (sym is) h in
        cc

-- a loop, with the next two numbers
enter_loop_at : {here : Here} (marked : ℕ → ℕ → Mark) → ((k l : ℕ) → numbers_of (marked k l) ≡ (k ∷ [], l ∷ [], []))
    → ((k l : ℕ) → is_bracket (marked k l) ≡ false) → ((k l : ℕ) → IsOpenedIn here (marked k l)) → (s : Passed) (a : After (Unit {0}))
    → ((k l : ℕ) → Each (MayChange here (reached s)) (mark_changes (marked k l) ++ []))
    → ((k l : ℕ) (new : Passed) → new.variables ≡ s.variables → Each (IsFree here s new) (mark_controls (marked k l) ++ []))
    → ((k l : ℕ) (o : Outline) → IsFurther (reached s) (whole_of o) → is_formed_mark o here.block (marked k l) ≡ true)
    → Fine here s → enter_loop marked s ≡ Ok a → PassingLeaves here Nothing s Anything a
unfolding begin_loop enter
enter_loop_at {here} marked loop plain opens s a changes controls formed fine is = by (nat_le most_entries s.entries) refl is
  where
    numbered : s.entries < most_entries → (test : Bool) → nat_le most_numbered s.loops ≡ test
        → and_then (behind_marks {A = ℕ × ℕ} [] (and_then
        (if test then Err (fault.TooMany s.latest) else Ok (after s.loops [] (record s { entries = s.entries + 1; loops = s.loops + 1 })))
        (λ l. behind_marks {A = ℕ × ℕ} l.look (pure {A = ℕ × ℕ} (s.entries, l.answer) l.passed))))
        (λ b. behind_marks b.look (mark (marked b.answer.0 b.answer.1) b.passed)) ≡ Ok a
        → PassingLeaves here Nothing s Anything a
    numbered few true test is = absurd cc
    numbered few false test is =
        let new : Passed = record s { entries = s.entries + 1; loops = s.loops + 1 } in
        let made = marked s.entries s.loops in
        let same : after tt (made ∷ []) new ≡ a = cc in
        subst (PassingLeaves here Nothing s Anything) same (
          record {
            way = One (Loop made few (below most_numbered s.loops test) (loop s.entries s.loops));
            lawful = fine.lawful;
            texts = fine.texts;
            changes = changes s.entries s.loops;
            controls = controls s.entries s.loops new refl;
            formed = λ o more. both_true _ true (formed s.entries s.loops o more) refl;
            spared = λ roots held.
                one_mark made roots (plain s.entries s.loops) (all_apart here s roots (mark_changes made) held (changes s.entries s.loops));
            opened = one_opened made (open_in here) (open_in here) (opens s.entries s.loops);
          },
          no_sites refl refl,
          tt,
        )

    by : (test : Bool) → nat_le most_entries s.entries ≡ test
        → and_then (and_then (if test then Err (fault.TooMany s.latest) else Ok (after s.entries [] (record s { entries = s.entries + 1 })))
        (λ b. behind_marks {A = ℕ × ℕ} b.look ((number_loop >>= (λ l. pure {A = ℕ × ℕ} (b.answer, l))) b.passed)))
        (λ b. behind_marks b.look (mark (marked b.answer.0 b.answer.1) b.passed)) ≡ Ok a
        → PassingLeaves here Nothing s Anything a
    by true test is = absurd cc
    by false test is = numbered (below most_entries s.entries test) (nat_le most_numbered s.loops) refl is

pub enter_loop_does : {here : Here} {least : Reached} (marked : ℕ → ℕ → Mark) → ((k l : ℕ) → numbers_of (marked k l) ≡ (k ∷ [], l ∷ [], []))
    → ((k l : ℕ) → mark_changes (marked k l) ≡ [])
    → ((k l : ℕ) → is_bracket (marked k l) ≡ false)
    → ((k l : ℕ) → IsOpenedIn here (marked k l))
    → ((k l : ℕ) (o : Outline) → IsFurther least (whole_of o) → is_formed_mark o here.block (marked k l) ≡ true)
    → PassingDoes here least Nothing (enter_loop marked) Anything
enter_loop_does {here} {least} marked loop no_change plain opens formed = record {
  does = λ s a is fine h.
      enter_loop_at marked loop plain opens s a
      (λ k l. subst (λ (m : List ℕ). Each (MayChange here (reached s)) (m ++ [])) (sym (no_change k l)) tt)
      (λ k l new same. subst (λ (m : List ℕ). Each (IsFree here s new) (m ++ [])) (sym (no_control (marked k l) (no_change k l))) tt)
      (λ k l o more. formed k l o (further_still h more)) fine is;
}

-- ---- control variables

-- a variable of this block or of one round it, which may be changed from here on
pub may_change_does : {here : Here} {least : Reached} (place : Place) (root : ℕ) (type_id : TypeId)
    → IsVariable here least.variables least.types root type_id
    → PassingDoes here least Nothing (may_change place root) (λ _ now. MayChange here now root)
unfolding may_change
may_change_does {here} {least} place root type_id known = record {
  does = λ s a is fine h.
      let x = split_unless (list_any (λ control. nat_eq control root) s.controls) (fault.Threatened place) (after tt [] (with_threatened root s)) a is in
      let there = get_longer h.variables root known.variable known.is_there in
      let apart = ap not x.0 in
      subst (PassingLeaves here Nothing s (λ _ now. MayChange here now root)) x.1 (by s (is_own s.enclosing.block (slice_get s.variables root)) refl fine there
      apart);
}
  where
    added : (roots : List ℕ) (root : ℕ) → list_any (nat_eq root) (with_one roots root) ≡ true
    added roots root = one (list_any (nat_eq root) roots) refl
      where
        at_end : (all : List ℕ) → list_any (nat_eq root) (all ++ root ∷ []) ≡ true
        at_end [] = ap (λ b. b || false) (eq-eqb root root refl)
        at_end (first ∷ all) = or_right (nat_eq root first) (list_any (nat_eq root) (all ++ root ∷ [])) (at_end all)

        one : (test : Bool) → list_any (nat_eq root) roots ≡ test → list_any (nat_eq root) (if test then roots else roots ++ root ∷ []) ≡ true
        one true is = is
        one false is = at_end roots

    own_is : (s : Passed) → Fine here s → slice_get s.variables root ≡ Some known.variable → is_own s.enclosing.block (slice_get s.variables root) ≡ true
        → nat_eq known.variable.block here.block ≡ true
    own_is s fine there is =
        ap (nat_eq known.variable.block) (sym fine.block) ∙ ap (is_own s.enclosing.block) (sym there) ∙ is

    or_left : (a b : Bool) → a ≡ true → (a || b) ≡ true
    or_left true b is = refl
    or_left false b is = absurd cc

    by : (s : Passed) (test : Bool) → is_own s.enclosing.block (slice_get s.variables root) ≡ test → Fine here s
        → slice_get s.variables root ≡ Some known.variable → not (list_any (λ control. nat_eq control root) s.controls) ≡ true
        → PassingLeaves here Nothing s (λ _ now. MayChange here now root)
        (after (tt {0}) [] (if test then s else record s { threatened = with_one s.threatened root }))
    by s true own fine there apart =
        silent_leaves (λ (_ : Unit {0}) now. MayChange here now root) refl Stay refl refl refl refl fine (record {
          variable = known.variable;
          is_there = there;
          is_visible = known.is_visible;
          may = or_left (nat_eq known.variable.block here.block) (list_any (nat_eq root) s.threatened) (own_is s fine there own);
          apart = apart;
        })
    by s false own fine there apart =
        silent_leaves (λ (_ : Unit {0}) now. MayChange here now root) refl (One (Threat root)) refl refl refl refl fine (record {
          variable = known.variable;
          is_there = there;
          is_visible = known.is_visible;
          may = or_right (nat_eq known.variable.block here.block) (list_any (nat_eq root) (with_one s.threatened root)) (added s.threatened root);
          apart = apart;
        })

-- a control variable is one of the variable declaration part of the block that no other block threatened, and its for
-- statement begins
pub controlled_does : {here : Here} {least : Reached} {B : Type 0} {Has : List Stood → Type 0} {L : B → Reached → Type 0} (place : Place) (root : ℕ)
    (marked : ℕ → ℕ → Mark) (rest : Passing B) → ((k l : ℕ) → numbers_of (marked k l) ≡ (k ∷ [], l ∷ [], []))
    → ((k l : ℕ) → mark_changes (marked k l) ≡ root ∷ [])
    → ((k l : ℕ) → mark_controls (marked k l) ≡ root ∷ []) → ((k l : ℕ) → is_bracket (marked k l) ≡ false)
    → ((k l : ℕ) → IsOpenedIn here (marked k l)) → MayChange here least root
    → ((now : Reached) → IsFurther least now → is_local here.block (slice_get now.variables root) ≡ true → (k l : ℕ) (o : Outline)
    → IsFurther now (whole_of o) → is_formed_mark o here.block (marked k l) ≡ true)
    → ((now : Reached) → IsFurther least now → PassingDoes here now Has rest L)
    → PassingDoes here least Has (may_control place root >>= (λ _. enter_loop marked >>= (λ _. rest))) L
unfolding may_control
controlled_does {here} {least} {B} {Has} {L} place root marked rest loop changes controls plain opens may formed law = record {
  does = λ s b is fine h.
      let own = is_local s.enclosing.block (slice_get s.variables root) in
      let free = not (list_any (nat_eq root) s.threatened) in
      let x = split (if own && free then Ok (after (tt {0}) [] s) else Err (fault.Threatened place))
      (λ a. behind_marks a.look ((enter_loop marked >>= (λ _. rest)) a.passed)) b is in
      let test = split_if (own && free) (fault.Threatened place) (after (tt {0}) [] s) x.0 x.1 in
      let y = split_behind x.0.look ((enter_loop marked >>= (λ _. rest)) x.0.passed) b x.2 in
      let on : (enter_loop marked >>= (λ _. rest)) s ≡ Ok y.0 =
      subst (λ (z : After (Unit {0})). (enter_loop marked >>= (λ _. rest)) z.passed ≡ Ok y.0) (sym test.1) y.1 in
      let quiet : after y.0.answer y.0.look y.0.passed ≡ b =
      ap (λ (z : After (Unit {0})). after y.0.answer (z.look ++ y.0.look) y.0.passed) test.1 ∙ y.2 in
      let u = split (enter_loop marked s) (λ a. behind_marks a.look (rest a.passed)) y.0 on in
      let v = split_behind u.0.look (rest u.0.passed) y.0 u.2 in
      let local = subst (λ block. is_local block (slice_get s.variables root) ≡ true) fine.block (first_of own free test.0) in
      let none = second_of own (list_any (nat_eq root) s.threatened) test.0 in
      let changed = change_later here least (reached s) root h may in
      let first =
      enter_loop_at marked loop plain opens s u.0
      (λ k l. subst (λ (m : List ℕ). Each (MayChange here (reached s)) (m ++ [])) (sym (changes k l)) (changed, tt))
      (λ k l new same. subst (λ (m : List ℕ). Each (IsFree here s new) (m ++ [])) (sym (controls k l))
      (is_free s new changed.variable changed.is_there same local none, tt))
      (λ k l o more. formed (reached s) h local k l o more) fine u.1 in
      let now : IsFurther least (reached u.0.passed) = further_still h (further first.0.way) in
      let second = (law (reached u.0.passed) now).does u.0.passed v.0 v.1 (fine_later first.0 fine) as_far in
      let both : PassingLeaves here Has s L y.0 =
      subst (PassingLeaves here Has s L) v.2
      (grown_then first.0 second.0, sited_then (λ p q none has. subst (λ l. Has (l ++ q)) (sym none) has) first.1 second.1, second.2) in
      subst (PassingLeaves here Has s L) quiet both;
}
  where
    first_of : (a b : Bool) → (a && b) ≡ true → a ≡ true
    first_of true b is = refl
    first_of false b is = absurd cc

    second_of : (a b : Bool) → (a && not b) ≡ true → b ≡ false
    second_of true false is = refl
    second_of true true is = absurd cc
    second_of false b is = absurd cc

    is_free : (s new : Passed) (v : Variable) → slice_get s.variables root ≡ Some v → new.variables ≡ s.variables
        → is_local here.block (slice_get s.variables root) ≡ true → list_any (nat_eq root) s.threatened ≡ false → IsFree here s new root
    is_free s new v there same local none = record {
      variable = v;
      is_there = ap (λ l. slice_get l root) same ∙ there;
      own = first_of (nat_eq v.block here.block) (is_local_kind v.kind) (ap (is_local here.block) (sym there) ∙ local);
      free = none;
    }

-- ---- the statement of a for

-- what is apart from several is apart from all but the last
apart_front : (roots : List ℕ) (last root : ℕ) → not (list_any (λ control. nat_eq control root) (roots ++ last ∷ [])) ≡ true
    → not (list_any (λ control. nat_eq control root) roots) ≡ true
apart_front roots last root apart =
    by (list_any (λ control. nat_eq control root) roots) (list_any (λ control. nat_eq control root) (last ∷ []))
    (ap not (sym (list_any-append (λ control. nat_eq control root) roots (last ∷ []))) ∙ apart)
  where
    by : (a b : Bool) → not (a || b) ≡ true → not a ≡ true
    by true b is = absurd cc
    by false b is = refl

held_more : (roots controls : List ℕ) (root : ℕ) → AreHeld roots controls → AreHeld (root ∷ roots) (controls ++ root ∷ [])
held_more roots controls root held other is =
    list_any-append (λ control. nat_eq control other) controls (root ∷ [])
    ∙ by (nat_eq root other) (list_any (λ one. nat_eq one other) roots) (list_any (λ control. nat_eq control other) controls) (held other) is
  where
    by : (same own there : Bool) → (own ≡ true → there ≡ true) → (same || own) ≡ true → (there || (same || false)) ≡ true
    by true own true held is = refl
    by true own false held is = refl
    by false own there held is = ap (λ (b : Bool). b || false) (held is)

-- a bracket tells nothing else
pub ended_flat : {A : Type 0} (f : Mark → List A) (look : Look) (end : Mark) → f end ≡ [] → flat_map f (look ++ (end ∷ [])) ≡ flat_map f look
ended_flat f look end none =
    flat_map-append f look (end ∷ []) ∙ ap (λ l. flat_map f look ++ (l ++ [])) none ∙ append-nil (flat_map f look)

module _ (root : ℕ) (look : Look) (s new : Passed) where
  abbrev inside : Passed
  inside = record s { controls = s.controls ++ root ∷ [] }

  abbrev behind_it : Passed
  behind_it = record new { controls = take (length new.controls - 1) new.controls }

  abbrev bracketed : Look
  bracketed = Controls root ∷ (look ++ (ForEnds ∷ []))

  still_apart : new.controls ≡ inside.controls → (other : ℕ) → (reached new).apart other ≡ true → (reached behind_it).apart other ≡ true
  still_apart kept other apart =
      ap (λ (all : List ℕ). not (list_any (λ control. nat_eq control other) all))
      (ap (λ (all : List ℕ). take (length all - 1) all) kept ∙ ended_control s.controls root)
      ∙ apart_front s.controls root other (sym (ap (λ (all : List ℕ). not (list_any (λ control. nat_eq control other) all)) kept) ∙ apart)

  grown_bracketed : {here : Here} → Grown here look inside new → Grown here bracketed s behind_it
  grown_bracketed {here} g = record {
    way = Controlled root g.way;
    lawful = g.lawful;
    texts = g.texts;
    changes =
        subst (Each (MayChange here (reached behind_it))) (sym (ended_flat mark_changes look ForEnds refl))
        (each_more (MayChange here (reached new)) (MayChange here (reached behind_it)) (changes_of look) (λ other m. record {
          variable = m.variable;
          is_there = m.is_there;
          is_visible = m.is_visible;
          may = m.may;
          apart = still_apart (same_controls g.way) other m.apart;
        }) g.changes);
    controls =
        subst (Each (IsFree here s behind_it)) (sym (ended_flat mark_controls look ForEnds refl))
        (each_more (IsFree here inside new) (IsFree here s behind_it) (controls_of look) (λ other c. record {
          variable = c.variable;
          is_there = c.is_there;
          own = c.own;
          free = c.free;
        }) g.controls);
    formed = λ o h.
        list_all-append (is_formed_mark o here.block) look (ForEnds ∷ [])
        ∙ both_true _ _ (g.formed o (record {
          sites = h.sites;
          points = h.points;
          types = h.types;
          variables = h.variables;
          headings = h.headings;
          threats = h.threats;
          apart = λ other apart. refl;
        })) refl;
    spared = λ roots held.
        spared_append (root ∷ roots) look (ForEnds ∷ [])
        ∙ ap (option_and_then (λ (behind : List ℕ). spared_behind behind (ForEnds ∷ []))) (g.spared (root ∷ roots) (held_more roots s.controls root held));
    opened = opened_then (open_in here) (open_in here) (open_in here) look (ForEnds ∷ []) g.opened refl;
  }

-- so many control variables more
fine_inside : {here : Here} (s : Passed) (controls : List ℕ) → Fine here s → Fine here (record s { controls = controls })
fine_inside s controls fine = record {
  sound = fine.sound;
  lawful = fine.lawful;
  texts = fine.texts;
  block = fine.block;
  around = fine.around;
  records = fine.records;
  stands = fine.stands;
  fit = record {
    fits = λ block signature is.
        let f = fine.fit.fits block signature is in
        record {
          formals = λ position root at.
              let formal = f.formals position root at in
              record { variable = formal.variable; is_there = formal.is_there; is_parameter = formal.is_parameter; stands = formal.stands };
          outcome = λ root at.
              let outcome = f.outcome root at in
              record {
                variable = outcome.variable;
                is_there = outcome.is_there;
                of_block = outcome.of_block;
                ordinal = outcome.ordinal;
                stands = outcome.stands;
              };
        };
  };
}

-- the statement of a for changes neither its control variable nor one of those round it
pub for_body_does : {here : Here} {least : Reached} {Has : List Stood → Type 0} (root : ℕ) (body : Passing (Unit {0}))
    → ((next : Reached) → PassingDoes here next Has body Anything) → PassingDoes here least Has (for_body root body) Anything
unfolding for_body begin_control end_control
for_body_does {here} {least} {Has} root body law = record {
  does = λ s a is fine h.
      let start : Passed = record s { controls = s.controls ++ root ∷ [] } in
      let to_end = λ (t : Passed). behind_marks [] (mark ForEnds (record t { controls = take (length t.controls - 1) t.controls })) in
      let from_body = and_then (body start) (λ b. behind_marks b.look (to_end b.passed)) in
      let x = split_behind [] (behind_marks (Controls root ∷ []) from_body) a is in
      let y = split_behind (Controls root ∷ []) from_body x.0 x.1 in
      let z = split (body start) (λ b. behind_marks b.look (to_end b.passed)) y.0 y.1 in
      let b = z.0 in
      let behind : Passed = record (b.passed) { controls = take (length b.passed.controls - 1) b.passed.controls } in
      let ended : after tt (b.look ++ (ForEnds ∷ [])) behind ≡ y.0 = ok_same z.2 in
      let whole : after tt (Controls root ∷ (b.look ++ (ForEnds ∷ []))) behind ≡ a =
      ap (λ (e : After (Unit {0})). after e.answer (Controls root ∷ e.look) e.passed) ended ∙ y.2 ∙ x.2 in
      let one = (law (reached start)).does start b z.1 (fine_inside s (s.controls ++ root ∷ []) fine) as_far in
      subst (PassingLeaves here Has s Anything) whole
      (grown_bracketed root b.look s b.passed one.0, record { added = one.1.added; sites = one.1.sites; points = one.1.points; covered = one.1.covered }, tt);
}
  where
    ok_same : {b c : After (Unit {0})} → ◌≡◌ {A = Checked (After (Unit {0}))} (Ok b) (Ok c) → b ≡ c
    ok_same h = cc

pub host_type_does : {here : Here} {least : Reached} (id : TypeId) → PassingDoes here least Nothing (host_type id) Anything
unfolding host_type
host_type_does {here} {least} id = record {
  does = λ s a is fine h.
      let answers : PassingDoes here least Nothing (pure (host_of s.types id)) Anything = pure_does (host_of s.types id) (λ n more. tt) in
      answers.does s a is fine h;
}

-- ---- blocks

pub enclosing_now_does : {here : Here} {least : Reached}
    → PassingDoes here least Nothing enclosing_now (λ enclosing now. (enclosing.block ≡ here.block) × (enclosing.around ≡ here.around))
unfolding enclosing_now
enclosing_now_does {here} = record {
  does = λ s a is fine h.
      let same : after s.enclosing [] s ≡ a = cc in
      silent_leaves (λ (e : Enclosing) now. (e.block ≡ here.block) × (e.around ≡ here.around)) same Stay refl refl refl refl fine (fine.block, fine.around);
}

-- the heading of a block that was passed tells what is so
pub heading_at_does : {here : Here} {least : Reached} (block : ℕ) (signature : Signature) → slice_get least.headings block ≡ Some signature
    → PassingDoes here least Nothing (heading_at block) (λ headed now. (signature_passed headed ≡ signature) × FitsHeading now block signature)
unfolding heading_at
heading_at_does {here} block signature there = record {
  does = λ s a is fine h.
      let known = get_longer h.headings block signature there in
      let at = get_mapped signature_passed s.headings block signature known in
      let found : get_or s.headings block program_heading ≡ at.0 = get_or_is s.headings block program_heading at.0 at.1 in
      let same : after (get_or s.headings block program_heading) [] s ≡ a = cc in
      silent_leaves (λ headed now. (signature_passed headed ≡ signature) × FitsHeading now block signature) same Stay refl refl refl refl fine
      (ap signature_passed found ∙ at.2, fine.fit.fits block signature known);
}

pub variable_at_does : {here : Here} {least : Reached} (root : ℕ)
    → PassingDoes here least Nothing (variable_at root) (λ found now. slice_get now.variables root ≡ found)
unfolding variable_at
variable_at_does {here} root = record {
  does = λ s a is fine h.
      let same : after (slice_get s.variables root) [] s ≡ a = cc in
      silent_leaves (λ found now. slice_get now.variables root ≡ found) same Stay refl refl refl refl fine refl;
}

-- a result is assigned, and then its target is told
pub fine_with_result : {here : Here} (s : Passed) (root : ℕ) → Fine here s → Fine here (with_result root s)
fine_with_result s root fine = record {
  sound = fine.sound;
  lawful = fine.lawful;
  texts = fine.texts;
  block = fine.block;
  around = fine.around;
  records = fine.records;
  stands = fine.stands;
  fit = fine.fit;
}

pub grown_assigned : {here : Here} {look : Look} {s new : Passed} (root : ℕ) → is_target look root ≡ true → Grown here look (with_result root s) new
    → Grown here look s new
grown_assigned {here} {look} {s} {new} root told g = record {
  way = Assigned root g.way told;
  lawful = g.lawful;
  texts = g.texts;
  changes = g.changes;
  controls =
      each_more (IsFree here (with_result root s) new) (IsFree here s new) (controls_of look)
      (λ other c. record { variable = c.variable; is_there = c.is_there; own = c.own; free = c.free }) g.controls;
  formed = g.formed;
  spared = g.spared;
  opened = g.opened;
}

-- ---- texts

pub text_at_does : {here : Here} {least : Reached} (number : ℕ)
    → PassingDoes here least Nothing (text_at number) (λ text now. are_characters text ≡ true)
unfolding text_at
text_at_does {here} {least} number = record {
  does = λ s a is fine h.
      let same : after (get_or s.texts number []) [] s ≡ a = cc in
      silent_leaves (λ text now. are_characters text ≡ true) same Stay refl refl refl refl fine (fine.texts number);
}

pub keep_text_does : {here : Here} {least : Reached} (text : List ℕ) → are_characters text ≡ true
    → PassingDoes here least Nothing (keep_text text) Anything
unfolding keep_text
keep_text_does {here} {least} text is_text = record {
  does = λ s a is fine h.
      let new : Passed = record s { texts = s.texts ++ text ∷ [] } in
      let same : after (length s.texts) [] new ≡ a = cc in
      subst (PassingLeaves here Nothing s Anything) same
      (grown_plain (One (Text text)) fine.lawful (texts_more s.texts text fine.texts is_text), no_sites refl refl, tt);
}

-- ---- sites

pub site_does : {here : Here} {least : Reached} (kind : SiteKind) (place : Place)
    → PassingDoes here least (λ added. added ≡ (Some kind, place) ∷ []) (site kind place) (λ id now. id < now.sites)
unfolding site
site_does {here} {least} kind place = record {
  does = λ s a is fine h.
      let new : Passed = record s { sites = s.sites ++ (kind, place) ∷ []; latest = place } in
      let y = split_unless (nat_le most_sites (length s.sites)) (fault.TooMany place) (after (length s.sites) [] new) a is in
      let counted = length-append s.sites ((kind, place) ∷ []) in
      subst (PassingLeaves here (λ added. added ≡ (Some kind, place) ∷ []) s (λ id now. id < now.sites)) y.1 (
        grown_plain (One (Site kind place (below most_sites (length s.sites) y.0))) fine.lawful fine.texts,
        record { added = (Some kind, place) ∷ []; sites = refl; points = sym (append-nil s.points); covered = refl },
        omega (arith, counted),
      );
}

-- ---- points

pub point_does : {here : Here} {least : Reached} (place : Place)
    → PassingDoes here least (λ added. added ≡ (None, place) ∷ []) (point place) (λ id now. id < now.points)
unfolding point
point_does {here} {least} place = record {
  does = λ s a is fine h.
      let new : Passed = record s { points = s.points ++ place ∷ []; latest = place } in
      let y = split_unless (nat_le most_sites (length s.points)) (fault.TooMany place) (after (length s.points) [] new) a is in
      let counted = length-append s.points (place ∷ []) in
      subst (PassingLeaves here (λ added. added ≡ (None, place) ∷ []) s (λ id now. id < now.points)) y.1 (
        grown_plain (One (Point place (below most_sites (length s.points) y.0))) fine.lawful fine.texts,
        record { added = (None, place) ∷ []; sites = sym (append-nil s.sites); points = refl; covered = refl },
        omega (arith, counted),
      );
}

-- ---- leading sites

-- the kinds of the leading site
abbrev pub led : Option SiteKind → List SiteKind
led None = []
led (Some kind) = kind ∷ []

abbrev pub IsKnown : Option ℕ → Reached → Type 0
IsKnown None now = Unit {0}
IsKnown (Some id) now = id < now.sites

pub behind_does : {here : Here} {least : Reached} (lead : Option SiteKind) (place : Place)
    → PassingDoes here least (λ added. added ≡ at_place place (led lead)) (behind lead place) IsKnown
unfolding behind
behind_does None place = pure_does None (λ now more. tt)
behind_does (Some kind) place = last (site_does kind place) (λ id now more known. pure_does (Some id) (λ n h. omega (arith, h.sites, known)))
