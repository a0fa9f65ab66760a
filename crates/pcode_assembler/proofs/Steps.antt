-- The assembler's way from line to line.
use Rattle.std.proofs.Common.{◌≡◌, ℕ, ◌+◌, ◌≤◌, Bool, true, false, ◌&&◌, nat_le, nat_lt, List, [], ◌∷◌, ◌++◌, length, map, Option, Some, None}
use Rattle.std.proofs.Common.{Result, Ok, Err, refl, sym, ap, subst, ◌∙◌, arith, append_assoc}
use Rattle.std.specs.Bool.{if◌then◌else◌}
use Rattle.std.specs.List.{list_all}
use Rattle.std.specs.Option.{is_none}
use Rattle.std.proofs.lemmas.Bool.{and_from, and_parts}
use Rattle.std.proofs.lemmas.Bool.Decides.{nat_tests}
use Rattle.std.proofs.lemmas.List.{append-nil}
use Rattle.pcode_assembler.specs.declared.above.Above.{Above}
use Rattle.pcode_assembler.specs.declared.code.Code.{Code}
use Rattle.pcode_assembler.specs.declared.content.Content.{Content}
use Rattle.pcode_assembler.specs.declared.content.Content.TheVariants as content
use Rattle.pcode_assembler.specs.declared.content.LineWord.{LineWord}
use Rattle.pcode_assembler.specs.declared.fault.AsmFault.TheVariants.{Refused}
use Rattle.pcode_assembler.specs.declared.fault.AsmRule.{AsmRule}
use Rattle.pcode_assembler.specs.declared.fault.AsmRule.TheVariants as rule
use Rattle.pcode_assembler.specs.Contents.{are_right, instruction_rows, is_right, point_rows, rows, site_rows}
use Rattle.pcode_assembler.specs.Lines.{content_of, fits, line_of, line_word, part_of, part_of_word}
use Rattle.pcode_assembler.specs.Reading.{Adds, AreRead, Holds, IsSmall}
use Rattle.pcode_assembler.specs.Text.{Seen, below, below_line, fault_at, fault_from, most, of_word, or_else, reaches, reading}
use Rattle.pcode_assembler.specs.Text.{rule_at, said_or_rule, start, unless}
use Rattle.pcode_assembler.specs.Writable.{check_site, is_below, jump_target, read_point}
use Rattle.pcode_assembler.proofs.LineLaws.{line_spelled}

-- ---- what is read in a line

pub ok_is : {A : Type 0} (x y : A) → (let r : Result A AsmRule = Ok x in r ≡ Ok y) → x ≡ y
ok_is x y e = cc

-- a line says something that may stand there
pub record IsLine (seen : Seen) (above : Above) (number : ℕ) (line : List ℕ) (said : Content) : Type 0 where
  pub line_is : line ≡ line_of said
  pub fit : fits said ≡ true
  pub part_is : nat_le above.part (part_of said) ≡ true
  pub no_rule : rule_at seen above number said ≡ None

ruled : (seen : Seen) (above : Above) (number : ℕ) (line : List ℕ) (w : LineWord) (given said : Content) (broken : Option AsmRule)
    → line_word line ≡ Some w → nat_le above.part (part_of_word w) ≡ true → content_of w line ≡ Some given
    → rule_at seen above number given ≡ broken → unless given broken ≡ Ok said → IsLine seen above number line said
ruled seen above number line w given said (Some broken) known part says is e = absurd cc
ruled seen above number line w given said None known part says is e =
    let spelled = line_spelled line w given known says in
    subst (IsLine seen above number line) (ok_is given said e) (record {
      line_is = spelled.line_is;
      fit = spelled.fit;
      part_is = ap (nat_le above.part) spelled.part_is ∙ part;
      no_rule = is;
    })

contained : (seen : Seen) (above : Above) (number : ℕ) (line : List ℕ) (w : LineWord) (o : Option Content) (said : Content) → line_word line ≡ Some w
    → nat_le above.part (part_of_word w) ≡ true → content_of w line ≡ o → said_or_rule seen above number o ≡ Ok said
    → IsLine seen above number line said
contained seen above number line w None said known part says e = absurd cc
contained seen above number line w (Some given) said known part says e = ruled seen above number line w given said _ known part says refl e

placed : (seen : Seen) (above : Above) (number : ℕ) (line : List ℕ) (w : LineWord) (may : Bool) (said : Content) → line_word line ≡ Some w
    → nat_le above.part (part_of_word w) ≡ may
    → (if may then said_or_rule seen above number (content_of w line) else Err rule.UnknownLine) ≡ Ok said → IsLine seen above number line said
placed seen above number line w true said known part e = contained seen above number line w _ said known part refl e
placed seen above number line w false said known part e = absurd cc

worded : (seen : Seen) (above : Above) (number : ℕ) (line : List ℕ) (o : Option LineWord) (said : Content) → line_word line ≡ o
    → of_word seen above number o line ≡ Ok said → IsLine seen above number line said
worded seen above number line None said known e = absurd cc
worded seen above number line (Some w) said known e = placed seen above number line w _ said known refl e

pub reading_line : (seen : Seen) (above : Above) (number : ℕ) (line : List ℕ) (said : Content) → reading seen above number line ≡ Ok said
    → IsLine seen above number line said
reading_line seen above number line said e = worded seen above number line _ said refl e

-- ---- the tables stay small

room_test : (n : ℕ) (broken : AsmRule) (room : Bool) → nat_lt n most ≡ room → (if room then None else Some broken) ≡ None → n + 1 ≤ most
room_test n broken true is none = grind (arith, nat_tests)
room_test n broken false is none = absurd cc

room : (n : ℕ) (broken : AsmRule) → (if nat_lt n most then None else Some broken) ≡ None → n + 1 ≤ most
room n broken none = room_test n broken _ refl none

instruction_room : (n : ℕ) (names has_room reach : Bool) → nat_lt n most ≡ has_room
    → (if names then (if has_room then (if reach then None else Some rule.Target) else Some rule.TooMany) else Some rule.Operand) ≡ None → n + 1 ≤ most
instruction_room n true true reach is none = grind (arith, nat_tests)
instruction_room n true false reach is none = absurd cc
instruction_room n false has_room reach is none = absurd cc

pub small_below : (seen : Seen) (above : Above) (number : ℕ) (said : Content) → IsSmall above → rule_at seen above number said ≡ None → IsSmall
    (below above said)
small_below seen above number (content.Site line column kind) small none =
    record { sites = room above.sites rule.Operand none; points = small.points; instructions = small.instructions }
small_below seen above number (content.Point line column) small none =
    record { sites = small.sites; points = room above.points rule.Operand none; instructions = small.instructions }
small_below seen above number (content.Label label) small none =
    record { sites = small.sites; points = small.points; instructions = small.instructions }
small_below seen above number (content.Instruction i) small none = record {
  sites = small.sites;
  points = small.points;
  instructions = instruction_room above.instructions (is_below above.points (read_point i) && is_below above.sites (check_site i)) _ (reaches seen
      (jump_target i)) refl none;
}

-- ---- one line more

-- what a line stands below that follows lines
abbrev pub after : Above → List Content → Above
after above [] = above
after above (said ∷ more) = after (below above said) more

after_snoc : (above : Above) (said : List Content) (one : Content) → after above (said ++ one ∷ []) ≡ below (after above said) one
after_snoc above [] one = refl
after_snoc above (first ∷ said) one = after_snoc (below above first) said one

rows_snoc : {A : Type 0} (row : Above → Content → List A) (above : Above) (said : List Content) (one : Content)
    → rows row above (said ++ one ∷ []) ≡ rows row above said ++ row (after above said) one
rows_snoc row above [] one = append-nil (row above one)
rows_snoc row above (first ∷ said) one =
    ap (λ more. row above first ++ more) (rows_snoc row (below above first) said one)
    ∙ sym (append_assoc (row above first) (rows row (below above first) said) (row (after (below above first) said) one))

right_snoc : (seen : Seen) (above : Above) (number here : ℕ) (said : List Content) (one : Content) → are_right seen above number said ≡ true
    → here ≡ number + length said → is_right seen (after above said) here one ≡ true → are_right seen above number (said ++ one ∷ []) ≡ true
right_snoc seen above number here [] one all here_is is =
    let same : here ≡ number = omega (arith, here_is) in
    and_from _ _ (subst (λ (n : ℕ). is_right seen above n one ≡ true) same is) refl
right_snoc seen above number here (first ∷ said) one all here_is is =
    let parts = and_parts (is_right seen above number first) (are_right seen (below above first) (number + 1) said) all in
    and_from _ _ parts.0 (right_snoc seen (below above first) (number + 1) here said one parts.1 (omega (arith, here_is)) is)

all_snoc : (said : List Content) (one : Content) → list_all fits said ≡ true → fits one ≡ true → list_all fits (said ++ one ∷ []) ≡ true
all_snoc [] one fit is = and_from _ _ is refl
all_snoc (first ∷ said) one fit is =
    let parts = and_parts (fits first) (list_all fits said) fit in
    and_from _ _ parts.0 (all_snoc said one parts.1 is)

lines_snoc : (said : List Content) (one : Content) (more : List (List ℕ)) → map line_of said ++ line_of one ∷ more ≡ map line_of (said ++ one ∷ []) ++ more
lines_snoc [] one more = refl
lines_snoc (first ∷ said) one more = ap (λ rest. line_of first ∷ rest) (lines_snoc said one more)

length_snoc : (said : List Content) (one : Content) → length (said ++ one ∷ []) ≡ length said + 1
length_snoc [] one = omega arith
length_snoc (first ∷ said) one = omega (arith, length_snoc said one)

-- the lines so far say something, a code has it, and the first fault is among the rest
pub record SoFar (seen : Seen) (all : List (List ℕ)) (code : Code) (above : Above) (number : ℕ) (rest : List (List ℕ)) : Type 0 where
  pub said : List Content
  pub lines_are : all ≡ map line_of said ++ rest
  pub fit : list_all fits said ≡ true
  pub right : are_right seen start 2 said ≡ true
  pub holds : Holds said code
  pub above_is : above ≡ after start said
  pub number_is : number ≡ 2 + length said
  pub small : IsSmall above
  pub fault_is : fault_from seen start 2 all ≡ fault_from seen above number rest

pub so_far-begins : (seen : Seen) (all : List (List ℕ)) (code : Code) → Holds [] code → SoFar seen all code start 2 all
so_far-begins seen all code empty = record {
  said = [];
  lines_are = refl;
  fit = refl;
  right = refl;
  holds = empty;
  above_is = refl;
  number_is = refl;
  small = record { sites = omega arith; points = omega arith; instructions = omega arith };
  fault_is = refl;
}

held : {A : Type 0} (row : Above → Content → List A) (above : Above) (said : List Content) (one : Content) (old new : List A)
    → old ≡ rows row start said → above ≡ after start said → new ≡ old ++ row above one → new ≡ rows row start (said ++ one ∷ [])
held row above said one old new old_is above_is new_is =
    new_is ∙ ap (λ rows. rows ++ row above one) old_is ∙ ap (λ a. rows row start said ++ row a one) above_is
    ∙ sym (rows_snoc row start said one)

pub so_far-next : (seen : Seen) (all : List (List ℕ)) (code new : Code) (above : Above) (number : ℕ) (rest : List (List ℕ)) (line : List ℕ)
    (more : List (List ℕ)) (one : Content) → SoFar seen all code above number rest → rest ≡ line ∷ more
    → reading seen above number line ≡ Ok one → Adds above one code new → SoFar seen all new (below above one) (number + 1) more
so_far-next seen all code new above number rest line more one so_far rest_is is adds =
    let at = reading_line seen above number line one is in
    let said = so_far.said in record {
      said = said ++ one ∷ [];
      lines_are = so_far.lines_are ∙ ap (λ ls. map line_of said ++ ls) (rest_is ∙ ap (λ l. l ∷ more) at.line_is) ∙ lines_snoc said one more;
      fit = all_snoc said one so_far.fit at.fit;
      right = right_snoc seen start 2 number said one so_far.right so_far.number_is
          (subst (λ (a : Above). is_right seen a number one ≡ true) so_far.above_is (and_from _ _ at.part_is (ap is_none at.no_rule)));
      holds = record {
        sites = held site_rows above said one _ _ so_far.holds.sites so_far.above_is adds.sites;
        points = held point_rows above said one _ _ so_far.holds.points so_far.above_is adds.points;
        instructions = held instruction_rows above said one _ _ so_far.holds.instructions so_far.above_is adds.instructions;
      };
      above_is = ap (λ a. below a one) so_far.above_is ∙ sym (after_snoc start said one);
      number_is = omega (arith, so_far.number_is, length_snoc said one);
      small = small_below seen above number one so_far.small at.no_rule;
      fault_is = so_far.fault_is ∙ ap (fault_from seen above number) rest_is
          ∙ ap (λ r. or_else (fault_at number r) (fault_from seen (below_line above r) (number + 1) more)) is;
    }

pub so_far-fault : (seen : Seen) (all : List (List ℕ)) (code : Code) (above : Above) (number : ℕ) (rest : List (List ℕ)) (line : List ℕ)
    (more : List (List ℕ)) (broken : AsmRule) → SoFar seen all code above number rest → rest ≡ line ∷ more
    → reading seen above number line ≡ Err broken → fault_from seen start 2 all ≡ Some (Refused broken number)
so_far-fault seen all code above number rest line more broken so_far rest_is is =
    so_far.fault_is ∙ ap (fault_from seen above number) rest_is
    ∙ ap (λ r. or_else (fault_at number r) (fault_from seen (below_line above r) (number + 1) more)) is

pub so_far-ends : (seen : Seen) (all : List (List ℕ)) (code : Code) (above : Above) (number : ℕ) (rest : List (List ℕ))
    → SoFar seen all code above number rest → rest ≡ [] → AreRead seen all code × (fault_from seen start 2 all ≡ None)
so_far-ends seen all code above number rest so_far rest_is = (
  record {
    said = so_far.said;
    lines_are = so_far.lines_are ∙ ap (λ ls. map line_of so_far.said ++ ls) rest_is ∙ append-nil (map line_of so_far.said);
    fit = so_far.fit;
    right = so_far.right;
    holds = so_far.holds;
  },
  so_far.fault_is ∙ ap (fault_from seen above number) rest_is,
)
