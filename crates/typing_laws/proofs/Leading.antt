-- The laws of expressions: their sites stand at their places, and the leading site behind the first token's own.
use Rattle.std.proofs.Common.{◌≡◌, ℕ, ◌<◌, ◌≤◌, true, nat_lt, List, [], ◌∷◌, ◌++◌, length, Option, Some, None, slice_get, sym, ap, subst, ◌∙◌, arith}
use Rattle.std.specs.Option.{option_and_then}
use Rattle.std.proofs.lemmas.Bool.Decides.{nat_tests}
use Rattle.place.specs.declared.Place.{Place}
use Rattle.types.specs.declared.form.TypeId.{TypeId}
use Rattle.types.specs.declared.sets.SetBase.{SetBase}
use Rattle.typed_tree.specs.declared.fault.TypeFault.TheVariants as fault
use Rattle.typed_tree.specs.declared.site.SiteKind.{SiteKind}
use Rattle.typed_tree.specs.declared.tree.Heading.{Heading}
use Rattle.typed_tree.specs.declared.tree.Variable.{Variable}
use Rattle.typed_tree.specs.WellFormed.{Outline, formal_of, is_variable_kind}
use Rattle.typed_tree.specs.Sites.{code_of}
use Rattle.typing.specs.Passing.{Passing}
use Rattle.typing_rules.specs.declared.typed.Typed.{Typed}
use Rattle.typing.specs.Expressions.{Written, WrittenLink, no_variable, not_readable, written}
use Rattle.typing_rules.specs.Typed.{typed, typed_set}
use Rattle.typing_laws.proofs.Copies.{HasSource, source_longer}
use Rattle.typing_laws.proofs.Covers.{Stood, AreAbove, Covers, Leads, covers_ahead, covers_lower, leads_covers}
use Rattle.typing_laws.proofs.Reached.{Signature, signature_of, Reached, whole_of, IsFurther, Here, get_longer, get_mapped}
use Rattle.typing_laws.proofs.Tables.{stands_longer}
use Rattle.typing_laws.proofs.Steps.{PassingDoes, Anything, Nothing, fail_does, pure_does, sited, led, IsKnown}

-- ---- the leading site

-- its kind stands behind those that a first token has of its own
abbrev pub IsLed : Option SiteKind → Type 0
IsLed None = Unit {0}
IsLed (Some kind) = 11 < code_of kind

pub led_alone : (lead : Option SiteKind) → IsLed lead → AreAbove 2 (led lead)
led_alone None is = tt
led_alone (Some kind) is = (omega (arith, is), tt)

pub led_behind : (own : SiteKind) (lead : Option SiteKind) → 2 < code_of own → code_of own ≤ 11 → IsLed lead → AreAbove 2 (own ∷ led lead)
led_behind own None high low is = (high, tt)
led_behind own (Some kind) high low is = (high, (omega (arith, low, is), tt))

pub known_later : (id : Option ℕ) (now next : Reached) → IsFurther now next → IsKnown id now → IsKnown id next
known_later None now next more known = tt
known_later (Some id) now next more known = omega (arith, more.sites, known)

pub lt_true : (a b : ℕ) → a < b → nat_lt a b ≡ true
lt_true a b h = grind (arith, nat_tests)

-- a typed expression has a leading site that is known, and where it is structured, it is so by its type
abbrev pub Types : Typed → Reached → Type 0
Types t now = IsKnown t.site now × HasSource now.types t.value

pub types_later : (t : Typed) (now next : Reached) → IsFurther now next → Types t now → Types t next
types_later t now next more types = (known_later t.site now next more types.0, source_longer more.types t.value types.1)

-- an ordinal
pub ordinal_types : (type_id : TypeId) (id : Option ℕ) (now next : Reached) → IsFurther now next → IsKnown id now → Types (typed type_id id) next
ordinal_types type_id id now next more known = (known_later id now next more known, tt)

-- a set
pub set_types : (base : SetBase) (id : Option ℕ) (now next : Reached) → IsFurther now next → IsKnown id now → Types (typed_set base id) next
set_types base id now next more known = (known_later id now next more known, tt)

-- ---- formal parameters

-- a formal parameter of a callee, at a place
pub record IsFormalAt (now : Reached) (callee position : ℕ) (formal : Variable) : Type 0 where
  pub signature : Signature
  pub heading : slice_get now.headings callee ≡ Some signature
  pub root : ℕ
  pub is_there : slice_get signature.parameters position ≡ Some root
  pub variable : slice_get now.variables root ≡ Some formal
  pub stands : formal.type_id.index < length now.types

pub formal_later : (now next : Reached) (callee position : ℕ) (formal : Variable) → IsFurther now next → IsFormalAt now callee position formal
    → IsFormalAt next callee position formal
formal_later now next callee position formal more f = record {
  signature = f.signature;
  heading = get_longer more.headings callee f.signature f.heading;
  root = f.root;
  is_there = f.is_there;
  variable = get_longer more.variables f.root formal f.variable;
  stands = stands_longer more.types formal.type_id f.stands;
}

-- it is one of the program's
pub formal_is : (now : Reached) (callee position : ℕ) (formal : Variable) (o : Outline) → IsFurther now (whole_of o)
    → IsFormalAt now callee position formal → formal_of o callee position ≡ Some formal
formal_is now callee position formal o more f =
    let at = get_mapped signature_of o.headings callee f.signature (get_longer more.headings callee f.signature f.heading) in
    let there : slice_get at.0.parameters.items position ≡ Some f.root =
    ap (λ (s : Signature). slice_get s.parameters position) at.2 ∙ f.is_there in
    ap (λ found. option_and_then (λ root. slice_get o.variables root) (option_and_then (λ (h : Heading). slice_get h.parameters.items position) found)) at.1
    ∙ ap (option_and_then (λ root. slice_get o.variables root)) there ∙ get_longer more.variables f.root formal f.variable

-- ---- the laws

module _ (here : Here) where
  -- an expression, with any leading site: at its first place its own ones are of kinds above those of a test that
  -- stands before them
  pub record LawfulWritten (places : List Place) (w : Written) : Type 0 where
    pub begins : (others : List Place) × (places ≡ w.first ∷ others)
    pub types : (least : Reached) (lead : Option SiteKind) → IsLed lead → PassingDoes here least (Covers 2 places) (w.typing lead) Types
    -- passed to a variable parameter
    pub passes :
        (least : Reached) (callee position : ℕ) (formal : Variable) → IsFormalAt least callee position formal → is_variable_kind formal.kind ≡ true
        → PassingDoes here least (Covers 2 places) (w.passing formal.type_id callee position) Anything
    pub reads : (least : Reached) → PassingDoes here least (Covers 2 places) w.reading Anything
    -- the file that it names
    pub names : (least : Reached) → PassingDoes here least Nothing w.file Anything

  -- one that is no variable, by what it is as an expression
  pub no_variable_lawful : (places others : List Place) (first : Place) (typing : Option SiteKind → Passing Typed) → places ≡ first ∷ others
      → ((least : Reached) (lead : Option SiteKind) → IsLed lead → PassingDoes here least (Covers 2 places) (typing lead) Types)
      → LawfulWritten places (written first typing)
  unfolding no_variable not_readable
  no_variable_lawful places others first typing begins types = record {
    begins = (others, begins);
    types = types;
    passes = λ least callee position formal is_formal is. fail_does (fault.NotVariable first);
    reads = λ least. fail_does (fault.NotVariable first);
    names = λ least. pure_does None (λ n h. tt);
  }

  pub record LawfulLink (places : List Place) (l : WrittenLink) : Type 0 where
    pub types : (least : Reached) (left : Typed) → Types left least → PassingDoes here least (Covers 2 places) (l left) Types

  -- the site of a test at the first token, before the token's own
  pub covers_test : (kind : SiteKind) → 0 < code_of kind → code_of kind ≤ 2 → (places : List Place) (w : Written) → LawfulWritten places w
      → (a b : List Stood) → a ≡ (Some kind, w.first) ∷ [] → Covers 2 places b → Covers 0 places (a ++ b)
  covers_test kind high low places w law a b one has =
      let others = law.begins.0 in
      subst (λ l. Covers 0 places (l ++ b)) (sym one)
      (subst (λ p. Covers 0 p ((Some kind, w.first) ∷ b)) (sym law.begins.1)
      (covers_ahead 0 kind high w.first others b
      (covers_lower 2 (code_of kind) low (w.first ∷ others) b (subst (λ p. Covers 2 p b) law.begins.1 has))))

  pub led_covers : (low : ℕ) (place : Place) (places : List Place) (kinds : List SiteKind) → AreAbove low kinds
      → {least : Reached} {A : Type 0} {p : Passing A} {K : A → Reached → Type 0} → PassingDoes here least (Leads place kinds places) p K
      → PassingDoes here least (Covers low (place ∷ places)) p K
  led_covers low place places kinds ascending d = sited (λ sites. leads_covers low place kinds places sites ascending) d
