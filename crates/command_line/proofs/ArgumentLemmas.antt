-- What holds of a command of clap's and of what it parses, where its arguments are known by their rules.
use Rattle.std.proofs.Common.{◌≡◌, ◌∙◌, ◌<◌, ◌&&◌, ℕ, zero, suc, Bool, true, false, not, List, [], ◌∷◌, length, map, ap, refl, sym, subst}
use Rattle.std.proofs.Common.{arith, codes, Option, Some, None, is_some, inl, inr, true≢false, IfOk, Result, Ok, Err}
use Rattle.std.specs.Prelude.{fold}
use Rattle.std.specs.List.{All, list_all, slice_index_or}
use Rattle.std.specs.Str.{bytes_eq}
use Rattle.std.proofs.lemmas.Slice.Eq.{bytes_eq-Decides}
use Rattle.clap.specs.Words.{Rule, Text, app_of, rule_of, with_rule}
use Rattle.clap.specs.Walk.{is_free_arg, is_simple_arg}
use Rattle.clap.specs.Built.{AddsArg, AddsInTurn, FitsChain, HasDistinctIds, IsPlainArg, TakesValue}
use Rattle.clap.specs.declared.builder.arg.Arg.{Arg}
use Rattle.clap.specs.declared.builder.command.Command.{Command}
use Rattle.clap.proofs.CallerLemmas.{required_in_chain}
use Rattle.clap.proofs.SimpleLemmas.{is_false, is_nil}
use Rattle.clap.proofs.TakesLemmas.{each_rule}
use Rattle.clap.proofs.WalkLemmas.{both}
use Rattle.command_line.specs.Words.{IsNamed, WantsValue, command_of, needed, value}

-- an argument that has no rule on another, and a name of its own: none that clap gives to arguments
abbrev is_fit : Rule → Bool
is_fit r = r.is_simple && (r.is_free && (not (bytes_eq r.id []) && (not (bytes_eq r.id (codes "help")) && not (bytes_eq r.id (codes "version")))))

-- two arguments have different names
abbrev are_apart : Rule → Rule → Bool
are_apart r s = not (bytes_eq r.id s.id) && not (bytes_eq s.id r.id)

-- no two arguments have one name
abbrev have_names : List Rule → Bool
have_names [] = true
have_names (r ∷ rs) = list_all (are_apart r) rs && have_names rs

-- arguments of which a command can be made
abbrev pub are_fit : List Rule → Bool
are_fit rs = list_all is_fit rs && have_names rs

-- a command to which these arguments are added, in turn
pub record IsMadeOf (name : Text) (rules : List Rule) (xs : List Arg) (made : Command) : Type 0 where
  pub start : Command
  pub named : IsNamed name start
  pub added : AddsInTurn AddsArg start xs made
  pub rules_are : map rule_of xs ≡ rules

never : {t : Bool} → not t ≡ true → t ≡ true → ⊥
never {t} f is = true≢false (sym is ∙ is_false t f)

differs : (xs ys : Text) → not (bytes_eq xs ys) ≡ true → xs ≡ ys → ⊥
differs xs ys apart same = never apart ((bytes_eq-Decides xs ys).1 same)

no_value : {X : Type 0} (o : Option X) → not (is_some o) ≡ true → o ≡ None
no_value None h = refl
no_value (Some x) h = absurd (true≢false (sym h))

-- what an argument is that uses no setting out of the way, and has no rule on another
record IsOrdinary (a : Arg) : Type 0 where
  is_plain : IsPlainArg a
  is_own : a.global ≡ false
  has_no_delimiter : a.val_delim ≡ None

ordinary : (a : Arg) → is_simple_arg a ≡ true → is_free_arg a ≡ true → IsOrdinary a
ordinary a simple free =
    let p = both _ _ simple in
    let q = both _ _ p.1 in
    let r = both _ _ q.1 in
    let s = both _ _ r.1 in
    let t = both (not (is_some a.terminator)) _ s.1 in
    let u = both (not a.allow_hyphen_values) _ t.1 in
    let v = both (not a.allow_negative_numbers) _ u.1 in
    let w = both (not a.require_equals) _ v.1 in
    let x = both (not a.last) _ w.1 in
    let f = both _ _ free in
    let g = both _ _ f.1 in
    record {
      is_plain = (is_false _ f.0, is_nil _ g.0, is_nil _ p.0, is_nil _ r.0);
      is_own = is_false _ x.1;
      has_no_delimiter = no_value _ s.0;
    }

fits : (a : Arg) → is_fit (rule_of a) ≡ true → FitsChain a
fits a h =
    let p = both _ _ h in
    let q = both _ _ p.1 in
    let r = both _ _ q.1 in
    let s = both _ _ r.1 in
    let o = ordinary a p.0 q.0 in
    (o.is_plain, o.is_own, differs _ _ r.0, (λ auto. elim auto [ inl same ↦ differs _ _ s.0 same | inr same ↦ differs _ _ s.1 same ]))

pub all_fit : (xs : List Arg) → are_fit (map rule_of xs) ≡ true → All FitsChain xs
all_fit xs h k d lt = fits (slice_index_or xs k d) (each_rule is_fit xs (both _ _ h).0 k d lt)

apart : (x y : Arg) → are_apart (rule_of x) (rule_of y) ≡ true
    → (bytes_eq x.id.now y.id.now ≡ true → ⊥) × (bytes_eq y.id.now x.id.now ≡ true → ⊥)
apart x y h = let p = both (not (bytes_eq x.id.now y.id.now)) (not (bytes_eq y.id.now x.id.now)) h in (never p.0, never p.1)

-- one more argument, whose name is another than those of all others
more_ids : (x : Arg) (xs : List Arg) → All (λ a. are_apart (rule_of x) (rule_of a) ≡ true) xs → HasDistinctIds xs → HasDistinctIds (x ∷ xs)
more_ids x xs others rest zero zero d e j k same = refl
more_ids x xs others rest zero (suc n) d e j k same = absurd ((apart x (slice_index_or xs n d) (others n d (omega arith))).0 same)
more_ids x xs others rest (suc m) zero d e j k same = absurd ((apart x (slice_index_or xs m e) (others m e (omega arith))).1 same)
more_ids x xs others rest (suc m) (suc n) d e j k same = ap suc (rest m n d e (omega arith) (omega arith) same)

distinct : (xs : List Arg) → have_names (map rule_of xs) ≡ true → HasDistinctIds xs
distinct [] h m n d e j k same = absurd (omega arith)
distinct (x ∷ xs) h m n d e j k same =
    let p = both _ _ h in
    more_ids x xs (each_rule (are_apart (rule_of x)) xs p.0) (distinct xs p.1) m n d e j k same

pub distinct_ids : (xs : List Arg) → are_fit (map rule_of xs) ≡ true → HasDistinctIds xs
distinct_ids xs h = distinct xs (both _ _ h).1

pub all_rest : {X : Type 0} (P : X → Type 0) (x : X) (xs : List X) → All P (x ∷ xs) → All P xs
all_rest P x xs h = λ k d lt. h (suc k) d (omega arith)

app_of_chain : (start made : Command) (xs : List Arg) → AddsInTurn AddsArg start xs made → All FitsChain xs
    → app_of made ≡ fold with_rule (app_of start) (map rule_of xs)
app_of_chain start made [] h all = ap app_of (sym h)
app_of_chain start made (x ∷ xs) h all =
    app_of_chain h.0 made xs h.2 (all_rest FitsChain x xs all)
    ∙ ap (λ a. fold with_rule a (map rule_of xs)) (h.1.shape (all 0 x (omega arith)).1)

-- the command that the builder's calls make
pub is_command : (name : Text) (rules : List Rule) (xs : List Arg) (made : Command) → IsMadeOf name rules xs made → are_fit rules ≡ true
    → app_of made ≡ command_of name rules
is_command name rules xs made chain fit =
    app_of_chain chain.start made xs chain.added (all_fit xs (ap are_fit chain.rules_are ∙ fit))
    ∙ (ap (λ rs. fold with_rule (app_of chain.start) rs) chain.rules_are ∙ ap (λ a. fold with_rule a rules) chain.named.app)

takes_value : (a : Arg) (name : Text) → rule_of a ≡ needed (value name) → TakesValue a
takes_value a name is =
    let o = ordinary a (ap (λ (r : Rule). r.is_simple) is) (ap (λ (r : Rule). r.is_free) is) in
    let range : a.num_vals ≡ None = ap (λ (r : Rule). r.range) is in
    (ap (λ (r : Rule). r.required) is, ap (λ (r : Rule). r.action) is, o.has_no_delimiter, rw range (omega arith))

-- what such a command parses has a value of each argument that is needed
pub wants_value : (name : Text) (rules : List Rule) (xs : List Arg) (made : Command) → IsMadeOf name rules xs made → are_fit rules ≡ true
    → (k : ℕ) (a : Arg) (id : Text) → k < length xs → slice_index_or xs k a ≡ a → rule_of a ≡ needed (value id) → WantsValue id made
wants_value name rules xs made chain fit k a id lt there is m parsed =
    let start = chain.named in
    let fits = ap are_fit chain.rules_are ∙ fit in
    let id_is : (slice_index_or xs k a).id.now ≡ id = ap (λ (x : Arg). x.id.now) there ∙ ap (λ (r : Rule). r.id) is in
    rw (← id_is) (required_in_chain chain.start made xs k a m chain.added start.arguments start.groups start.globals start.negates
    (all_fit xs fits) (distinct_ids xs fits) lt (subst TakesValue (sym there) (takes_value a id is)) parsed)

-- what is so of a value is so where it is the answer
pub on_ok : {A E : Type 0} {P Q : A → Type 0} (r : Result A E) → IfOk r P → ((one : A) → P one → Q one) → IfOk r Q
on_ok (Ok one) h more = more one h
on_ok (Err e) h more = tt
