-- How acts make up a course: one comes behind another, and a program goes on or ends.
use Rattle.std.proofs.Common.{◌≡◌, ℕ, List, [], ◌∷◌, ◌++◌, Option, Some, None, Bool, true, false, refl, ap, subst, sym, ◌∙◌, append_assoc, append-nil}
use Rattle.std.specs.Prelude.{◌==◌, if◌then◌else◌}
use Rattle.std.proofs.Common.{Ok, Err}
use denote.Ref.{Bor}
use Rattle.stack_machine.specs.declared.stop.Stop.{Stop}
use Rattle.stack_machine.specs.Does.{cell_count}
use Rattle.outside.specs.Acts.{Act, Follow, Told, WroteFile}
use Rattle.report_text.specs.Text.{stop_status}
use Rattle.pcode_assembler.specs.declared.code.Code.{Code}
use Rattle.report.specs.Courses.{Course, CourseGoes, HasWritten, ends_with, file_status, run_status, runs, stops, unwritable_line, writes_if}
use Rattle.report.specs.Pcom.{runs_if}
use Rattle.report.specs.declared.ready.Ready.{Ready}
use Rattle.report.specs.Prepared.{IsReadyIf, IsThereFor}

-- acts follow behind others
pub follow-then : (a b c : Option (List Act)) (one more : List Act) → Follow a b one → Follow b c more → Follow a c (one ++ more)
follow-then None b c one more first next = tt
follow-then (Some xs) None c one more first next = absurd first
follow-then (Some xs) (Some ys) None one more first next = absurd next
follow-then (Some xs) (Some ys) (Some zs) one more first next =
    next ∙ ap (λ (l : List Act). l ++ more) first ∙ append_assoc xs one more

-- behind an act a program goes on
pub goes-on : (course next : Course) (act : Act) (a b c : Option (List Act)) (status : ℕ) → Follow a b (act ∷ []) → CourseGoes b c status next
    → ((rest : List Act) → next rest status → course (act ∷ rest) status) → CourseGoes a c status course
goes-on course next act a b c status first (rest, follows, goes) whole =
    (act ∷ rest, follow-then a b c (act ∷ []) rest first follows, whole rest goes)

-- nothing was done, and a program ends
pub stopped : (a : Option (List Act)) (status answer : ℕ) → answer ≡ status → CourseGoes a a answer (stops status)
stopped None status answer is = ([], tt, (refl, is))
stopped (Some xs) status answer is = ([], sym (append-nil xs), (refl, is))

-- a line was told, and a program ends
pub told : (a b : Option (List Act)) (text line : List ℕ) (is_whole : Bool) (status answer : ℕ) → Follow a b (Told text is_whole ∷ []) → text ≡ line
    → answer ≡ status → CourseGoes a b answer (ends_with line status)
told a b text line is_whole status answer follows is same =
    (Told text is_whole ∷ [], follows, (is_whole, [], ap (λ (t : List ℕ). Told t is_whole ∷ []) is, (refl, same)))

-- the status of a run, by those of its report and its stop
pub run_answer : (report : ℕ) (stop : Stop) (status answer : ℕ) → status ≡ stop_status stop
    → answer ≡ (if status == 0 then report else status) → answer ≡ run_status report stop
run_answer report stop status answer same is = is ∙ ap (λ (s : ℕ). if s == 0 then report else s) same

-- a text was written, where a file is named for it, and a program goes on
pub written : (path : Option (List ℕ)) (wanted text : List ℕ) (a b c : Option (List Act)) (status : ℕ) (next : Course)
    → IsThereFor path wanted text → HasWritten path text a b (Ok tt) → CourseGoes b c status next → CourseGoes a c status (writes_if path wanted next)
written None wanted text a b c status next has same goes = subst (λ (o : Option (List Act)). CourseGoes o c status next) same goes
written (Some path) wanted text a b c status next has wrote goes =
    goes-on (writes_if (Some path) wanted next) next (WroteFile path text true) a b c status wrote goes
    (λ (rest : List Act) done. (true, rest, ap (λ (t : List ℕ). WroteFile path t true ∷ rest) has, done))

-- a file didn't take a text, and a program ends
pub unwritten : (path : Option (List ℕ)) (wanted text : List ℕ) (failed : Bor (List ℕ)) (a b c : Option (List Act)) (status : ℕ) (next : Course)
    → IsThereFor path wanted text → HasWritten path text a b (Err failed) → CourseGoes b c status (ends_with (unwritable_line failed.now) file_status)
    → CourseGoes a c status (writes_if path wanted next)
unwritten None wanted text failed a b c status next has wrote goes = absurd wrote
unwritten (Some path) wanted text failed a b c status next has wrote goes =
    goes-on (writes_if (Some path) wanted next) (ends_with (unwritable_line path) file_status) (WroteFile path text false) a b c status wrote.1
    (subst (λ (p : List ℕ). CourseGoes b c status (ends_with (unwritable_line p) file_status)) wrote.0 goes)
    (λ (rest : List Act) done. (false, rest, ap (λ (t : List ℕ). WroteFile path t false ∷ rest) has, done))

-- where a machine is ready, the words say that the code is run on it
pub runs-on : (go : Bool) (ready : Ready) (code wanted : Code) (told : Bool) (given status : ℕ) (rest : List Act) (answer : ℕ)
    → IsReadyIf go wanted (Some ready) → code ≡ wanted → given ≡ status → runs code (cell_count ready.machine) told given rest answer
    → runs_if go wanted status told rest answer
runs-on true ready code wanted told given status rest answer is_ready same is done =
    subst (λ (n : ℕ). runs wanted n told status rest answer) is_ready.cells_are
    (subst (λ (one : Code). runs one (cell_count ready.machine) told status rest answer) same
    (subst (λ (s : ℕ). runs code (cell_count ready.machine) told s rest answer) is done))
runs-on false ready code wanted told given status rest answer is_ready same is done = cc
