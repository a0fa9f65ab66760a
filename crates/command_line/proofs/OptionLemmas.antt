-- What a parse found of an argument that has a parser: a text that the parser accepts, read as the parser says.
use Rattle.std.proofs.Common.{◌≡◌, ◌∙◌, ◌++◌, ◌||◌, ◌<◌, ℕ, zero, suc, Bool, true, false, List, [], ◌∷◌, length, ap, refl, sym, subst}
use Rattle.std.proofs.Common.{arith, Option, Some, None, option_map, inl, inr}
use Rattle.std.specs.Prelude.{slice_get}
use Rattle.std.specs.Borrow.{Bor}
use Rattle.std.specs.List.{All, slice_index_or}
use Rattle.std.specs.Str.{bytes_eq}
use Rattle.std.proofs.lemmas.List.{append-nil, append_assoc}
use Rattle.std.proofs.lemmas.List.Elements.{All-nil}
use Rattle.std.proofs.lemmas.Slice.Eq.{bytes_eq-Decides}
use Rattle.clap.specs.Words.{Accepts, Rule, Text, args_of, first_value, found_of, groups_of, matched_of, one_text, read_as, reading_of}
use Rattle.clap.specs.Facts.{Entry, EntryPasses, HasReading, PassesArg, ValuesPass, parser_of, parser_of_value}
use Rattle.clap.specs.Built.{AddsArg, AddsInTurn, FitsChain, IsParsedFrom, IsPlain, IsPlainArg, KeepsList, SameRules}
use Rattle.clap.specs.declared.builder.arg.Arg.{Arg}
use Rattle.clap.specs.declared.builder.command.Command.{Command}
use Rattle.clap.specs.declared.builder.command.Command.TheViews.{out-Command}
use Rattle.clap.specs.declared.builder.value_parser.Reading.{Reading}
use Rattle.clap.specs.declared.builder.value_parser.ValueParser.{ValueParser}
use Rattle.clap.specs.declared.parser.matches.ArgMatches.{ArgMatches}
use Rattle.clap.specs.declared.parser.matches.Found.{Found}
use Rattle.clap.specs.declared.parser.matches.MatchedArg.{MatchedArg}
use Rattle.clap.proofs.CallerLemmas.{added_plain, entry_by_id, same_rules_by_id}
use Rattle.command_line.proofs.ArgumentLemmas.{IsMadeOf, all_fit, all_rest, are_fit, distinct_ids}

-- each argument of the command with this name has the parser, and takes its names of values in this case
abbrev KnowsParser : Command → Text → ValueParser → Bool → Type 0
KnowsParser c id q ignore_case = (j : ℕ) (y : Arg) → j < length (args_of c) → slice_index_or (args_of c) j y ≡ y
    → bytes_eq y.id.now id ≡ true → (parser_of y ≡ q) × (y.ignore_case ≡ ignore_case)

first_passes : (P : Text → Type 0) (vs : List (Bor Text)) (text : Text) → All (λ v. P v.now) vs
    → option_map (λ s. s.now) (slice_get vs 0) ≡ Some text → P text
first_passes P [] text h first = cc
first_passes P (v ∷ vs) text h first =
    let same : v.now ≡ text = cc in
    subst P same (h 0 v (omega arith))

first_read : (how : Reading) (o : Option (Bor Text)) (text : Text) → option_map (λ s. s.now) o ≡ Some text
    → option_map (λ s. read_as how s.now) o ≡ Some (read_as how text)
first_read how None text first = cc
first_read how (Some s) text first =
    let same : s.now ≡ text = cc in
    ap (λ t. Some (read_as how t)) same

accepts_as : (y : Arg) (q : ValueParser) (ignore_case : Bool) (text : Text) → (parser_of y ≡ q) × (y.ignore_case ≡ ignore_case)
    → Accepts y.ignore_case (parser_of y) text → Accepts ignore_case q text
accepts_as y q ignore_case text same passes =
    let as_q : Accepts y.ignore_case q text = subst (λ w. Accepts y.ignore_case w text) same.0 passes in
    subst (λ b. Accepts b q text) same.1 as_q

accepted : (c : Command) (id : Text) (q : ValueParser) (ignore_case : Bool) → KnowsParser c id q ignore_case → (text : Text)
    → PassesArg c id text → Accepts ignore_case q text
accepted c id q ignore_case knows text passes =
    accepts_as passes.1 q ignore_case text (knows passes.0 passes.1 passes.2 passes.3 passes.4.0) passes.4.1

reading_by : (c : Command) (id : Text) (q : ValueParser) (ignore_case : Bool) → KnowsParser c id q ignore_case → (how : Reading)
    → HasReading c id how → how ≡ reading_of q
reading_by c id q ignore_case knows how any = sym any.4.1 ∙ ap reading_of (knows any.0 any.1 any.2 any.3 any.4.0).0

entry_reads : (c : Command) (f : Found) (id : Text) (q : ValueParser) (ignore_case : Bool) → groups_of c ≡ [] → (id ≡ [] → ⊥)
    → ValuesPass c f → KnowsParser c id q ignore_case → (text : Text) → first_value f id ≡ Some text
    → Accepts ignore_case q text × (one_text f id ≡ Some (read_as (reading_of q) text))
entry_reads c f id q ignore_case no_groups named values knows text first = by_entry (matched_of f id) refl first
  where
    one_text_is : (x : MatchedArg) → matched_of f id ≡ Some x → (text : Text) (how : Reading) → x.reading ≡ how
        → option_map (λ s. read_as x.reading s.now) (slice_get x.vals.items 0) ≡ Some (read_as x.reading text) → one_text f id ≡ Some (read_as how text)
    one_text_is x found text how is here = rw found (here ∙ ap (λ r. Some (read_as r text)) is)

    step : (x : MatchedArg) → matched_of f id ≡ Some x → option_map (λ s. s.now) (slice_get x.vals.items 0) ≡ Some text
        → ((e : Entry) × (e.1 ≡ x) × (bytes_eq e.0.now id ≡ true) × EntryPasses c e)
        → Accepts ignore_case q text × (one_text f id ≡ Some (read_as (reading_of q) text))
    step x found here got =
        let key : got.0.0.now ≡ id = (bytes_eq-Decides got.0.0.now id).0 got.2 in
        let no_group : got.0.1.is_group ≡ true → ⊥ = λ g. elim (got.3.3 g) [
          | inl empty ↦ named (sym key ∙ empty)
          | inr lots ↦ let bad : 0 < 0 = rw no_groups at lots in absurd (omega arith)
        ] in
        let passes : PassesArg c id text = elim got.3.0 [
          | inl g ↦ absurd (no_group g)
          | inr vals ↦ first_passes (PassesArg c id) x.vals.items text (subst (λ w. All (λ v. PassesArg c w v.now) x.vals.items) key (rw got.1 at vals)) here
        ] in
        let is : got.0.1.reading ≡ reading_of q = elim got.3.4 [
          | inl g ↦ absurd (no_group g)
          | inr any ↦ reading_by c id q ignore_case knows got.0.1.reading (subst (λ w. HasReading c w got.0.1.reading) key any)
        ] in
        let here_read = first_read x.reading (slice_get x.vals.items 0) text here in (
          accepted c id q ignore_case knows text passes,
          one_text_is x found text (reading_of q) (ap (λ (y : MatchedArg). y.reading) (sym got.1) ∙ is) here_read,
        )

    by_entry : (o : Option MatchedArg) → matched_of f id ≡ o → first_value f id ≡ Some text
        → Accepts ignore_case q text × (one_text f id ≡ Some (read_as (reading_of q) text))
    by_entry None e h = let bad : None ≡ Some text = rw e at h in cc
    by_entry (Some x) e h = step x e (rw e at h) (entry_by_id (EntryPasses c) f.entries.items id x values e)

-- two lists with the same rules, place by place, keep them with one more before them
more_places : (x y : Arg) (xs ys : List Arg) → SameRules x y
    → ((k : ℕ) (e g : Arg) → k < length xs → SameRules (slice_index_or xs k e) (slice_index_or ys k g))
    → (k : ℕ) (e g : Arg) → k < length (x ∷ xs) → SameRules (slice_index_or (x ∷ xs) k e) (slice_index_or (y ∷ ys) k g)
more_places x y xs ys r rest zero e g lt = r
more_places x y xs ys r rest (suc n) e g lt = rest n e g (omega arith)

-- what a command keeps to which arguments are added in turn
record Keeps (c : Command) (xs : List Arg) (d : Command) : Type 0 where
  kept : List Arg
  args : args_of d ≡ args_of c ++ kept
  places : KeepsList xs kept
  plain : IsPlain d
  globals : (out-Command d).has_globals ≡ false

keeps : (c d : Command) (xs : List Arg) → AddsInTurn AddsArg c xs d → All FitsChain xs → IsPlain c → (out-Command c).has_globals ≡ false → Keeps c xs d
keeps c d [] h all plain globals = record {
  kept = [];
  args = rw h (sym (append-nil _));
  places = (refl, (λ k e f lt. absurd (omega arith)));
  plain = rw (← h) plain;
  globals = rw (← h) globals;
}
keeps c d (x ∷ xs) h all plain globals =
    let added = h.1 in
    let fit = all 0 x (omega arith) in
    let still = added.globals ∙ (ap (λ b. b || x.global) globals ∙ ap (λ b. false || b) fit.1) in
    let rest = keeps h.0 d xs h.2 (all_rest FitsChain x xs all) (added_plain c h.0 x added plain fit.0) still in
    record {
      kept = added.arg ∷ rest.kept;
      args = rest.args ∙ (ap (λ l. l ++ rest.kept) added.args ∙ append_assoc (args_of c) (added.arg ∷ []) rest.kept);
      places = (ap suc rest.places.0, more_places x added.arg xs rest.kept added.rules rest.places.1);
      plain = rest.plain;
      globals = rest.globals;
    }

-- what a parse found of an argument with a parser, of a command that is made of arguments
pub reads_value : (name : Text) (rules : List Rule) (xs : List Arg) (made : Command) → IsMadeOf name rules xs made → are_fit rules ≡ true
    → (k : ℕ) (a : Arg) (q : ValueParser) → k < length xs → slice_index_or xs k a ≡ a → a.value_parser ≡ Some q
    → (m : ArgMatches) → IsParsedFrom made m → (text : Text) → first_value (found_of m) a.id.now ≡ Some text
    → Accepts a.ignore_case q text × (one_text (found_of m) a.id.now ≡ Some (read_as (reading_of q) text))
reads_value name rules xs made chain fit k a q lt place parser m p text first =
    let fits = ap are_fit chain.rules_are ∙ fit in
    let start = chain.named in
    let all = all_fit xs fits in
    let start_plain : IsPlain chain.start = (subst (All IsPlainArg) (sym start.arguments) (All-nil IsPlainArg), start.groups) in
    let facts = keeps chain.start made xs chain.added all start_plain start.globals in
    let list : args_of made ≡ facts.kept = facts.args ∙ ap (λ l. l ++ facts.kept) start.arguments in
    let b = slice_index_or (args_of made) k a in
    let elem : b ≡ slice_index_or facts.kept k a = ap (λ l. slice_index_or l k a) list in
    let own : SameRules a b = rw elem (subst (λ w. SameRules w (slice_index_or facts.kept k a)) place (facts.places.1 k a a lt)) in
    let len : length (args_of made) ≡ length xs = ap length list ∙ facts.places.0 in
    let within : k < length (args_of made) = omega arith in
    let same_id : b.id.now ≡ a.id.now = ap (λ w. w.now) own.id in
    let fit_a : FitsChain a = subst FitsChain place (all k a lt) in
    let only : (j : ℕ) (e : Arg) → j < length (args_of made) → bytes_eq (slice_index_or (args_of made) j e).id.now b.id.now ≡ true → j ≡ k =
    λ j e low same.
    let in_xs : j < length xs = omega arith in
    let there : (slice_index_or (args_of made) j e).id ≡ (slice_index_or xs j e).id =
    ap (λ (x : Arg). x.id) (ap (λ l. slice_index_or l j e) list) ∙ (facts.places.1 j e e in_xs).id in
    distinct_ids xs fits j k a e in_xs lt (rw (place, ← ap (λ w. w.now) there, ← same_id) same) in
    let knows : KnowsParser p.built a.id.now q a.ignore_case = λ j y high at same.
    let s = same_rules_by_id made m p k a within only (λ auto. fit_a.3 (elim auto [ inl h ↦ inl (sym same_id ∙ h) | inr h ↦ inr (sym same_id ∙ h) ]))
    j y high at (rw same_id same) in
    (ap parser_of_value (s.parser q (own.parser q parser)), s.ignore_case ∙ own.ignore_case) in
    let parsed = p.parsed (p.from.globals ∙ facts.globals) in
    entry_reads p.built (found_of m) a.id.now q a.ignore_case (p.from.plain facts.plain).1 fit_a.2 parsed.values knows text first
