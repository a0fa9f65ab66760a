-- A text and the code that it says.
use Rattle.std.proofs.Common.{◌≡◌, ◌≢◌, ℕ, ◌+◌, Bool, true, false, nat_le, List, [], ◌∷◌, ◌++◌, map, Option, Some, None, Result, Ok, Err}
use Rattle.std.proofs.Common.{length, max, refl, sym, ap, ap₂, subst, ◌∙◌, codes}
use Rattle.std.specs.Str.{bytes_eq}
use Rattle.std.specs.Bool.{if◌then◌else◌}
use Rattle.std.specs.List.{flat_map, list_all}
use Rattle.std.specs.Option.{is_none}
use Rattle.std.specs.Result.{IsErrAnd}
use Rattle.std.proofs.lemmas.Bool.{and_from, and_parts}
use Rattle.memory.specs.Refused.{the_refusal}
use Rattle.text_lines.specs.Lines.{ended, lines}
use Rattle.text_lines.proofs.Bytes.{are_above}
use Rattle.text_lines.proofs.Parting.{some_is}
use Rattle.pcode_assembler.specs.declared.above.Above.{Above}
use Rattle.pcode_assembler.specs.declared.code.Code.{Code}
use Rattle.pcode_assembler.specs.declared.content.Content.{Content}
use Rattle.pcode_assembler.specs.declared.fault.AsmFault.{AsmFault}
use Rattle.pcode_assembler.specs.declared.fault.AsmFault.TheVariants as fault
use Rattle.pcode_assembler.specs.declared.fault.AsmRule.{AsmRule}
use Rattle.pcode_assembler.specs.declared.fault.AsmRule.TheVariants as rule
use Rattle.pcode_assembler.specs.Contents.{IsReadAs, IsSameCode, Says, are_right, going_to, instruction_rows, is_right, lines_of, named, point_rows}
use Rattle.pcode_assembler.specs.Contents.{rows, site_rows}
use Rattle.pcode_assembler.specs.Lines.{content_of, fits, line_of, line_word, part_of, part_of_word}
use Rattle.pcode_assembler.specs.Reading.{AreRead}
use Rattle.pcode_assembler.specs.Text.{Seen, below, below_line, body, body_fault, end_fault, fault_at, fault_from, has_end, heading, of_word, or_else}
use Rattle.pcode_assembler.specs.Text.{frame_fault, heading_fault, reading, rule_at, said_or_rule, seen_in, start, unless}
use Rattle.pcode_assembler.proofs.Bodies.{body_again, body_text, end_again}
use Rattle.pcode_assembler.proofs.LineLaws.{line_above, line_again}

-- ---- a code that is read

pub exactly : (text : List ℕ) (below : List (List ℕ)) (seen : Seen) (read code : Code) → has_end text ≡ true → body text ≡ heading ∷ below
    → seen ≡ seen_in (body text) → AreRead seen below read → code.sites.items ≡ read.sites.items → code.points.items ≡ read.points.items
    → code.instructions.items ≡ map (going_to (named seen)) read.instructions.items → Says text code
exactly text below seen read code at_end body_is seen_is is sites points instructions =
    let lines : body text ≡ lines_of is.said = body_is ∙ ap (λ ls. heading ∷ ls) is.lines_are in
    let all = seen_is ∙ ap seen_in lines in record {
      said = is.said;
      text_is = body_text text at_end ∙ ap (λ ls. flat_map ended ls ++ ended (codes "end")) lines;
      fit = is.fit;
      right = subst (λ (s : Seen). are_right s start 2 is.said ≡ true) all is.right;
      sites = sites ∙ is.holds.sites;
      points = points ∙ is.holds.points;
      instructions = instructions ∙ ap (λ s. map (going_to (named s)) read.instructions.items) all
          ∙ ap (map (going_to (named (seen_in (lines_of is.said))))) is.holds.instructions;
    }

-- ---- lines that say a code have no fault

none_is : (o : Option AsmRule) → is_none o ≡ true → o ≡ None
none_is None is = refl
none_is (Some broken) is = absurd cc

pub reading_again : (seen : Seen) (above : Above) (number : ℕ) (said : Content) → fits said ≡ true → is_right seen above number said ≡ true
    → reading seen above number (line_of said) ≡ Ok said
reading_again seen above number said fit right =
    let again = line_again said fit in
    let parts = and_parts (nat_le above.part (part_of said)) (is_none (rule_at seen above number said)) right in
    let may : nat_le above.part (part_of_word again.first) ≡ true = ap (nat_le above.part) again.part_is ∙ parts.0 in
    ap (λ o. of_word seen above number o (line_of said)) again.known
    ∙ rw may (ap (said_or_rule seen above number) again.says ∙ ap (unless said) (none_is (rule_at seen above number said) parts.1))

pub faultless : (seen : Seen) (above : Above) (number : ℕ) (said : List Content) → list_all fits said ≡ true → are_right seen above number said ≡ true
    → fault_from seen above number (map line_of said) ≡ None
faultless seen above number [] fit right = refl
faultless seen above number (one ∷ more) fit right =
    let fit_parts = and_parts (fits one) (list_all fits more) fit in
    let parts = and_parts (is_right seen above number one) (are_right seen (below above one) (number + 1) more) right in
    ap (λ r. or_else (fault_at number r) (fault_from seen (below_line above r) (number + 1) (map line_of more)))
    (reading_again seen above number one fit_parts.0 parts.0)
    ∙ faultless seen (below above one) (number + 1) more fit_parts.1 parts.1

lines_above : (said : List Content) → list_all fits said ≡ true → list_all (are_above 10) (map line_of said) ≡ true
lines_above [] fit = refl
lines_above (one ∷ more) fit =
    let parts = and_parts (fits one) (list_all fits more) fit in
    and_from _ _ (line_above one parts.0) (lines_above more parts.1)

-- the lines of a text that says a code
pub said_body : (text : List ℕ) (code : Code) (says : Says text code) → (body text ≡ lines_of says.said) × (has_end text ≡ true)
said_body text code says =
    let above = lines_above says.said says.fit in
    (ap body says.text_is ∙ body_again (lines_of says.said) above, ap has_end says.text_is ∙ end_again (lines_of says.said) above)

pub no_end_fault : (text : List ℕ) (code : Code) → Says text code → end_fault text ≡ None
no_end_fault text code says = rw (said_body text code says).1 refl

pub no_body_fault : (text : List ℕ) (code : Code) → Says text code → body_fault (body text) ≡ None
no_body_fault text code says =
    ap body_fault (said_body text code says).0 ∙ faultless (seen_in (lines_of says.said)) start 2 says.said says.fit says.right

tail_is : (first other : List ℕ) (ls others : List (List ℕ)) → (let all : List (List ℕ) = first ∷ ls in all ≡ other ∷ others) → ls ≡ others
tail_is first other ls others e = cc

-- the lines below the first of a text that says a code
pub no_fault_below : (text : List ℕ) (below : List (List ℕ)) (seen : Seen) (code : Code) → Says text code → body text ≡ heading ∷ below
    → seen ≡ seen_in (body text) → fault_from seen start 2 below ≡ None
no_fault_below text below seen code says body_is seen_is =
    let lines = (said_body text code says).0 in
    let rest = tail_is heading heading below (map line_of says.said) (sym body_is ∙ lines) in
    ap (λ s. fault_from s start 2 below) (seen_is ∙ ap seen_in lines) ∙ ap (fault_from (seen_in (lines_of says.said)) start 2) rest
    ∙ faultless (seen_in (lines_of says.said)) start 2 says.said says.fit says.right

pub memory_only : (f : AsmFault) (o : Option AsmFault) → o ≡ None → (f ≢ fault.Memory the_refusal → o ≡ Some f) → f ≡ fault.Memory the_refusal
memory_only (fault.Memory _) o none told = refl
memory_only (fault.Refused broken line) o none told =
    absurd (let told_it : o ≡ Some (fault.Refused broken line) = told (λ same. absurd cc) in cc)

-- ---- no other code is read

pub same_content : (a b : Content) → fits a ≡ true → fits b ≡ true → line_of a ≡ line_of b → a ≡ b
same_content a b fit other same =
    let one = line_again a fit in
    let two = line_again b other in
    let word = some_is one.first two.first (sym one.known ∙ ap line_word same ∙ two.known) in
    some_is a b (sym one.says ∙ ap (λ w. content_of w (line_of a)) word ∙ ap (content_of two.first) same ∙ two.says)

same_contents : (a b : List Content) → list_all fits a ≡ true → list_all fits b ≡ true → map line_of a ≡ map line_of b → a ≡ b
same_contents [] [] fit other same = refl
same_contents [] (two ∷ b) fit other same = absurd cc
same_contents (one ∷ a) [] fit other same = absurd cc
same_contents (one ∷ a) (two ∷ b) fit other same =
    let parts = and_parts (fits one) (list_all fits a) fit in
    let others = and_parts (fits two) (list_all fits b) other in
    ap (λ c. c ∷ a) (same_content one two parts.0 others.0 cc)
    ∙ ap (λ cs. two ∷ cs) (same_contents a b parts.1 others.1 (tail_is (line_of one) (line_of two) (map line_of a) (map line_of b) same))

-- a text says one code at most
pub one_code : (text : List ℕ) (code answered : Code) → Says text code → Says text answered → IsSameCode code answered
one_code text code answered says other =
    let lines : lines_of says.said ≡ lines_of other.said = sym (said_body text code says).0 ∙ (said_body text answered other).0 in
    let same = same_contents says.said other.said says.fit other.fit
    (tail_is heading heading (map line_of says.said) (map line_of other.said) lines) in record {
      sites = says.sites ∙ ap (rows site_rows start) same ∙ sym other.sites;
      points = says.points ∙ ap (rows point_rows start) same ∙ sym other.points;
      instructions = says.instructions ∙ ap (λ s. map (going_to (named (seen_in (lines_of s)))) (rows instruction_rows start s)) same ∙ sym other.instructions;
    }

pub error_only : (code : Code) (answer : Result Code AsmFault) (error : AsmFault) → IsErrAnd answer (λ given. given ≡ error)
    → error ≡ fault.Memory the_refusal → IsReadAs code answer
error_only code (Ok answered) error is only = absurd is
error_only code (Err given) error is only = is ∙ only

end_test : (text : List ℕ) (at_end : Bool) (f : AsmFault) → has_end text ≡ at_end → (if at_end then None else Some f) ≡ None → has_end text ≡ true
end_test text true f is none = is
end_test text false f is none = absurd cc

pub end_from : (text : List ℕ) → end_fault text ≡ None → has_end text ≡ true
end_from text none = end_test text _ (fault.Refused rule.CutOff (max 1 (length (lines text)))) refl none

-- ---- the fault of the last line or of the first

-- a first line that isn't the heading is the first fault of the lines above the last
pub heading_first : (lines : List (List ℕ)) (f : AsmFault) → heading_fault lines ≡ Some f → body_fault lines ≡ Some f
heading_first [] f is = is
heading_first (first ∷ more) f is = by (bytes_eq first heading) refl is
  where
    by : (test : Bool) → bytes_eq first heading ≡ test → (if test then None else Some (fault.Refused rule.UnknownLine 1)) ≡ Some f
        → body_fault (first ∷ more) ≡ Some f
    by true same is = absurd cc
    by false other is = rw other is

-- it is told
pub framed : (text : List ℕ) (answer : Result Code AsmFault) (error f : AsmFault) → IsErrAnd answer (λ given. given ≡ error)
    → frame_fault text ≡ Some error → frame_fault text ≡ Some f → answer ≡ Err f
framed text (Ok code) error f is here there = absurd is
framed text (Err given) error f is here there = ap Err (is ∙ some_is error f (sym here ∙ there))

pub ended_wrong : (text : List ℕ) (error : AsmFault) → end_fault text ≡ Some error → frame_fault text ≡ Some error
ended_wrong text error is = ap (λ o. or_else o (heading_fault (body text))) is

pub headed_wrong : (text : List ℕ) (error : AsmFault) → end_fault text ≡ None → heading_fault (body text) ≡ Some error → frame_fault text ≡ Some error
headed_wrong text error none is = ap₂ or_else none is

-- there is none where a text ends and begins as it has to
pub unframed : (text : List ℕ) (below : List (List ℕ)) (answer : Result Code AsmFault) (f : AsmFault) → end_fault text ≡ None
    → body text ≡ heading ∷ below → frame_fault text ≡ Some f → answer ≡ Err f
unframed text below answer f none is told =
    absurd (let kept : frame_fault text ≡ None = ap₂ or_else none (ap heading_fault is) in let both : None ≡ Some f = sym kept ∙ told in cc)
