-- Statements whose jumps are set when what they lead to is there.
use Rattle.std.proofs.Common.{◌≡◌, ℕ, ◌+◌, ◌*◌, ◌≤◌, List, [], ◌∷◌, ◌++◌, length, length-append, Ok, Err, refl, ap, sym, subst, ◌∙◌}
use Rattle.std.proofs.Common.{◌||◌, append_assoc, arith, false, length-set, nat_lt}
use Rattle.std.specs.Prelude.{ℤ, slice_set}
use Rattle.std.specs.Global.{Vec}
use Rattle.std.proofs.Math.Nat.{add-zero}
use Rattle.std.proofs.Math.Seq.{set-append_seam}
use Rattle.memory.specs.Refused.{the_refusal}
use Rattle.pcode_assembler.specs.declared.instr.Instr.{Instr}
use Rattle.pcode_assembler.specs.declared.instr.Instr.TheVariants as instr
use Rattle.typed_tree.specs.declared.tree.CaseHead.{CaseHead}
use Rattle.typed_tree.specs.declared.tree.ForHead.{ForHead}
use Rattle.code_scheme.specs.Code.{Placed, arms_code, case_code, expr_code, for_begin, for_code, for_end, for_next, if_code, if_else_code, row_code, while_code}
use Rattle.code_scheme.specs.Scopes.{Scope, holding}
use Rattle.code_scheme.specs.Sizes.{capped}
use Rattle.code_emitter.specs.declared.emitter.Loss.{Loss}
use Rattle.code_emitter.specs.declared.emitter.Loss.TheVariants.{Memory, TooLarge}
use Rattle.code_emitter.specs.Emitted.{Gets, HasMore, IsKept, Seen, place_of, with_each, with_instr}
use Rattle.code_emitter.specs.Pieces.{arm_begin, arm_code, arm_end, for_order, for_tests, guarded_code, jumps_out}
use Rattle.code_emitter.proofs.Emitted.{gets_alike, gets_filled, gets_is, gets_same, gets_then, kept_before, place_behind}

-- an instruction that is set moves nothing
pub place_set : (place : ℕ) (i : Instr) (seen : Seen) → place_of (with_instr place i seen) ≡ place_of seen
place_set place i (Ok code) = length-set code place i
place_set place i (Err loss) = refl

pub kept_set : (place : ℕ) (i : Instr) (seen : Seen) → IsKept (with_instr place i seen) → IsKept seen
kept_set place i (Ok code) kept = tt
kept_set place i (Err loss) kept = kept

-- behind a test and the jump that it decides
inside_is : {a b c : Seen} (test : List Instr) → Gets a b test → Gets b c (instr.Jump 0 ∷ []) → IsKept c → place_of c ≡ place_of a + length test + 1
inside_is test tested hole kept = omega (arith, place_behind (gets_then tested hole) kept, length-append test (instr.Jump 0 ∷ []))

-- what is done where a test holds
pub guarded_gets : {a b c d e : Seen} (past : ℕ) (scope : Scope) (test : List Instr) (inside : Placed) → Gets a b test → Gets b c (instr.Jump 0 ∷ [])
    → Gets c d (inside scope (place_of c)) → e ≡ with_instr (place_of b) (instr.JumpIfFalse (place_of d + past)) d
    → Gets a e (guarded_code past test inside scope (place_of a))
guarded_gets {a = a} past scope test inside tested hole g is =
    let code = gets_same g (λ kept. ap (inside scope) (inside_is test tested hole kept)) in
    gets_then tested (gets_filled hole code is (λ kept.
    ap instr.JumpIfFalse (omega (arith, place_behind code kept, inside_is test tested hole (kept_before code kept)))))

-- an if statement without `else`
pub if_is : (test : List Instr) (consequence : Placed) (scope : Scope) (place : ℕ)
    → guarded_code 0 test consequence scope place ≡ if_code test consequence scope place
if_is test consequence scope place =
    let yes = place + length test + 1 in
    ap (λ n. test ++ (instr.JumpIfFalse n ∷ consequence scope yes)) (add-zero (yes + length (consequence scope yes)))

-- the same with it
pub if_else_gets : {a e f g h : Seen} (scope : Scope) (test : List Instr) (consequence alternative : Placed)
    → Gets a e (guarded_code 1 test consequence scope (place_of a)) → Gets e f (instr.Jump 0 ∷ []) → Gets f g (alternative scope (place_of f))
    → h ≡ with_instr (place_of e) (instr.Jump (place_of g)) g → Gets a h (if_else_code test consequence alternative scope (place_of a))
if_else_gets {a = a} {f = f} scope test consequence alternative first over r ends =
    let yes = place_of a + length test + 1 in
    let code = consequence scope yes in
    let no = yes + length code + 1 in
    let at = λ (kept : IsKept f).
    let there : place_of f ≡ no =
    omega (
      arith,
      place_behind (gets_then first over) kept,
      length-append (test ++ (instr.JumpIfFalse no ∷ code)) (instr.Jump 0 ∷ []),
      length-append test (instr.JumpIfFalse no ∷ code),
    ) in
    there in
    let other = gets_same r (λ kept. ap (alternative scope) (at kept)) in
    let second = gets_filled over other ends (λ kept. ap instr.Jump (omega (arith, place_behind other kept, at (kept_before other kept)))) in
    gets_is (gets_then first second)
    (append_assoc test (instr.JumpIfFalse no ∷ code) (instr.Jump (no + length (alternative scope no)) ∷ alternative scope no))

-- a while statement
pub while_gets : {a b c : Seen} (scope : Scope) (test : List Instr) (body : Placed) → Gets a b (guarded_code 1 test body scope (place_of a))
    → Gets b c (instr.Jump (place_of a) ∷ []) → Gets a c (while_code test body scope (place_of a))
while_gets {a = a} scope test body first back =
    let inside = place_of a + length test + 1 in
    gets_is (gets_then first back)
    (append_assoc test (instr.JumpIfFalse (inside + length (body scope inside) + 1) ∷ body scope inside) (instr.Jump (place_of a) ∷ []))

-- a for statement
pub for_gets : {a b c d e f g h i j k : Seen} (scope : Scope) (head : ForHead) (body : Placed) → Gets a b (expr_code scope head.first.value)
    → Gets b c (expr_code scope head.last.value) → Gets c d (for_order scope head.direction) → Gets d e (instr.Jump 0 ∷ [])
    → Gets e f (for_tests scope head) → Gets f g (for_begin scope head.control) → Gets g h (body (holding 2 scope) (place_of g))
    → Gets h i (for_next scope head.direction (place_of f) (place_of h + 9)) → j ≡ with_instr (place_of d) (instr.JumpIfFalse (place_of h + 9)) i
    → Gets j k (for_end scope head.control) → Gets a k (for_code head body scope (place_of a))
for_gets {a = a} {f = f} {g = g} {h = h} scope head body first last order hole tests begin inner next is end =
    let p = expr_code scope head.first.value in
    let q = expr_code scope head.last.value in
    let round = place_of a + length p + length q + 8 in
    let inside = body (holding 2 scope) (round + 2) in
    let out = round + 2 + length inside + 9 in
    let bounds = gets_then first (gets_then last order) in
    let tested = gets_then bounds (gets_then hole tests) in
    let long = length-append p (q ++ for_order scope head.direction) in
    let long' = length-append q (for_order scope head.direction) in
    let round_is = λ (kept : IsKept f).
    let there : place_of f ≡ round =
    omega (arith, place_behind tested kept, long, long', length-append (p ++ (q ++ for_order scope head.direction)) (instr.Jump 0 ∷ for_tests scope head)) in
    there in
    let inside_at = λ (kept : IsKept g).
    let there : place_of g ≡ round + 2 = omega (arith, place_behind begin kept, round_is (kept_before begin kept)) in
    there in
    let code = gets_same inner (λ kept. ap (body (holding 2 scope)) (inside_at kept)) in
    let out_is = λ (kept : IsKept h).
    let there : place_of h + 9 ≡ out = omega (arith, place_behind code kept, inside_at (kept_before code kept)) in
    there in
    let nexts = gets_same next (λ kept.
    ap (λ n. for_next scope head.direction n (place_of h + 9)) (round_is (kept_before begin (kept_before code kept)))
    ∙ ap (for_next scope head.direction round) (out_is kept)) in
    let rest = gets_then tests (gets_then begin (gets_then code nexts)) in
    let whole = gets_filled hole rest is (λ kept. ap instr.JumpIfFalse (out_is (kept_before nexts kept))) in
    gets_is (gets_then first (gets_then last (gets_then order (gets_then whole end))))
    (ap (λ tail. p ++ (q ++ (for_order scope head.direction ++ (instr.JumpIfFalse out ∷ (for_tests scope head ++ (for_begin scope head.control ++ tail))))))
    (append_assoc inside (for_next scope head.direction round out) (for_end scope head.control)))

-- how many instructions a row of constants has
pub row_long : (scope : Scope) (arm : ℕ) (row : List ℤ) → length (row_code scope arm row) ≡ 4 * length row
row_long scope arm [] = refl
row_long scope arm (constant ∷ row) = let rest = row_long scope arm row in omega arith

-- an arm of a case statement, behind its row
module _ {a b c d e f g : Seen} (scope : Scope) (row : List ℤ) (arm : Placed)
    (compares : Gets a b (row_code scope (capped (place_of a + 4 * length row + 1)) row)) (small : place_of b ≤ 1000000)
    (over : Gets b c (instr.Jump 0 ∷ [])) (code : Gets c d (arm (holding 1 scope) (place_of c))) (leaves : Gets d e (instr.Jump 0 ∷ [])) (keeps : Gets e f [])
    (is : g ≡ with_instr (place_of b) (instr.Jump (place_of f)) f) where
  abbrev begins : ℕ
  begins = arm_begin scope row (place_of a)

  tests : Gets a b (row_code scope begins row)
  tests =
      let many = row_long scope (capped (place_of a + 4 * length row + 1)) row in
      gets_alike compares (λ kept. many ∙ sym (row_long scope begins row)) (λ kept.
      ap (λ n. row_code scope n row) (omega (arith, place_behind compares kept, small, many, row_long scope 0 row)))

  begins_is : IsKept c → place_of c ≡ begins
  begins_is kept =
      omega (
        arith,
        place_behind (gets_then tests over) kept,
        length-append (row_code scope begins row) (instr.Jump 0 ∷ []),
        row_long scope begins row,
        row_long scope 0 row,
      )

  inside : Gets c d (arm (holding 1 scope) begins)
  inside = gets_same code (λ kept. ap (arm (holding 1 scope)) (begins_is kept))

  ends_is : IsKept d → place_of d ≡ arm_end scope row arm (place_of a)
  ends_is kept = omega (arith, place_behind inside kept, begins_is (kept_before inside kept))

  pub arm_gets : Gets a g (arm_code scope row arm (place_of a))
  arm_gets =
      let behind = gets_then leaves keeps in
      let rest = gets_then inside behind in
      gets_then tests (gets_filled over rest is (λ kept.
      ap instr.Jump (omega (arith, place_behind behind kept, ends_is (kept_before behind kept)))))

  pub arm_ends : (outs before : List ℕ) → (IsKept f → outs ≡ before ++ (place_of d ∷ [])) → IsKept g
      → outs ≡ before ++ (arm_end scope row arm (place_of a) ∷ [])
  arm_ends outs before h kept =
      let there = kept_set (place_of b) (instr.Jump (place_of f)) f (subst IsKept is kept) in
      h there ∙ ap (λ n. before ++ (n ∷ [])) (ends_is (kept_before leaves (kept_before keeps there)))

-- the arms, one further
pub arms_split : (scope : Scope) (row : Vec ℤ) (rows : List (Vec ℤ)) (arm : Placed) (arms : List Placed) (place : ℕ)
    → arms_code scope 0 (row ∷ rows) (arm ∷ arms) place ≡ arm_code scope row.items arm place ++ arms_code scope 0 rows arms
    (place + length (arm_code scope row.items arm place))
arms_split scope row rows arm arms place =
    let begin = arm_begin scope row.items place in
    let test = row_code scope begin row.items in
    let code = arm (holding 1 scope) begin in
    let next = begin + length code + 1 in
    let rest = arms_code scope 0 rows arms in
    let jump = instr.Jump next ∷ (code ++ (instr.Jump 0 ∷ [])) in
    let at : next ≡ place + length (test ++ jump) =
    omega (
      arith,
      length-append test jump,
      length-append code (instr.Jump 0 ∷ []),
      row_long scope begin row.items,
      row_long scope 0 row.items,
    ) in
    ap (λ n. test ++ (instr.Jump next ∷ (code ++ (instr.Jump 0 ∷ rest n)))) at
    ∙ sym (append_assoc test jump (rest (place + length (test ++ jump)))
    ∙ ap (λ tail. test ++ (instr.Jump next ∷ tail)) (append_assoc code (instr.Jump 0 ∷ []) (rest (place + length (test ++ jump)))))

pub jumps_split : (scope : Scope) (row : Vec ℤ) (rows : List (Vec ℤ)) (arm : Placed) (arms : List Placed) (place : ℕ)
    → jumps_out scope (row ∷ rows) (arm ∷ arms) place ≡ arm_end scope row.items arm place ∷ jumps_out scope rows arms
    (place + length (arm_code scope row.items arm place))
jumps_split scope row rows arm arms place =
    let begin = arm_begin scope row.items place in
    let test = row_code scope begin row.items in
    let code = arm (holding 1 scope) begin in
    let out = arm_end scope row.items arm place in
    ap (λ n. out ∷ jumps_out scope rows arms n)
    (omega (
      arith,
      length-append test (instr.Jump (out + 1) ∷ (code ++ (instr.Jump 0 ∷ []))),
      length-append code (instr.Jump 0 ∷ []),
      row_long scope begin row.items,
      row_long scope 0 row.items,
    ))

-- no arm behind the last one
pub arms_none : (scope : Scope) (out : ℕ) (rows : List (Vec ℤ)) (place : ℕ) → arms_code scope out rows [] place ≡ []
arms_none scope out [] place = refl
arms_none scope out (row ∷ rows) place = refl

pub jumps_none : (scope : Scope) (rows : List (Vec ℤ)) (place : ℕ) → jumps_out scope rows [] place ≡ []
jumps_none scope [] place = refl
jumps_none scope (row ∷ rows) place = refl

-- the jumps out of a case statement are set when its end is there
module _ (scope : Scope) (out : ℕ) where
  outs_set : (rows : List (Vec ℤ)) (arms : List Placed) (before tail : List Instr) (place : ℕ) → length before ≡ place
      → with_each (jumps_out scope rows arms place) (instr.Jump out) (Ok (before ++ (arms_code scope 0 rows arms place ++ tail)))
      ≡ Ok (before ++ (arms_code scope out rows arms place ++ tail))
  outs_set [] arms before tail place at = refl
  outs_set (row ∷ rows) [] before tail place at = refl
  outs_set (row ∷ rows) (arm ∷ arms) before tail place at =
      let begin = arm_begin scope row.items place in
      let test = row_code scope begin row.items in
      let code = arm (holding 1 scope) begin in
      let end = arm_end scope row.items arm place in
      let jump = instr.Jump (end + 1) in
      let rest = λ (n : ℕ). arms_code scope n rows arms (end + 1) in
      let front = before ++ (test ++ (jump ∷ code)) in
      let places = jumps_out scope rows arms (end + 1) in
      let regroup = λ (last : Instr) (more : List Instr).
      let same : before ++ ((test ++ (jump ∷ (code ++ (last ∷ more)))) ++ tail) ≡ front ++ (last ∷ (more ++ tail)) = simp append_assoc in
      same in
      let long : length front ≡ end =
      omega (
        arith,
        at,
        length-append before (test ++ (jump ∷ code)),
        length-append test (jump ∷ code),
        row_long scope begin row.items,
        row_long scope 0 row.items,
      ) in
      let longer : length (front ++ (instr.Jump out ∷ [])) ≡ end + 1 = omega (arith, long, length-append front (instr.Jump out ∷ [])) in
      ap (λ c. with_each (end ∷ places) (instr.Jump out) (Ok c)) (regroup (instr.Jump 0) (rest 0))
      ∙ ap (λ n. with_each places (instr.Jump out) (Ok (slice_set (front ++ (instr.Jump 0 ∷ (rest 0 ++ tail))) n (instr.Jump out)))) (sym long)
      ∙ ap (λ c. with_each places (instr.Jump out) (Ok c))
      (set-append_seam front (instr.Jump 0) (rest 0 ++ tail) (instr.Jump out) ∙ sym (append_assoc front (instr.Jump out ∷ []) (rest 0 ++ tail)))
      ∙ outs_set rows arms (front ++ (instr.Jump out ∷ [])) tail (end + 1) longer
      ∙ ap Ok (append_assoc front (instr.Jump out ∷ []) (rest out ++ tail) ∙ sym (regroup (instr.Jump out) (rest out)))

  arms_long : (rows : List (Vec ℤ)) (arms : List Placed) (place : ℕ) → length (arms_code scope 0 rows arms place) ≡ length (arms_code scope out rows arms place)
  arms_long [] arms place = refl
  arms_long (row ∷ rows) [] place = refl
  arms_long (row ∷ rows) (arm ∷ arms) place =
      let begin = arm_begin scope row.items place in
      let test = row_code scope begin row.items in
      let code = arm (holding 1 scope) begin in
      let next = begin + length code + 1 in
      omega (
        arith,
        length-append test (instr.Jump next ∷ (code ++ (instr.Jump 0 ∷ arms_code scope 0 rows arms next))),
        length-append test (instr.Jump next ∷ (code ++ (instr.Jump out ∷ arms_code scope out rows arms next))),
        length-append code (instr.Jump 0 ∷ arms_code scope 0 rows arms next),
        length-append code (instr.Jump out ∷ arms_code scope out rows arms next),
        arms_long rows arms next,
      )

  each_lost : (places : List ℕ) (i : Instr) (loss : Loss) → with_each places i (Err loss) ≡ Err loss
  each_lost [] i loss = refl
  each_lost (place ∷ places) i loss = each_lost places i loss

  all_set : (b e f : Seen) (rows : List (Vec ℤ)) (arms : List Placed) (tail : List Instr) (outs : List ℕ) (i : Instr)
      → HasMore false b e (arms_code scope 0 rows arms (place_of b) ++ tail) → (IsKept e → outs ≡ jumps_out scope rows arms (place_of b))
      → (IsKept e → i ≡ instr.Jump out) → HasMore false b (with_each outs i e) (arms_code scope out rows arms (place_of b) ++ tail)
  all_set (Ok code) (Ok all) f rows arms tail outs i h places leads =
      subst (λ s. HasMore false (Ok code) s (arms_code scope out rows arms (length code) ++ tail))
      (sym (ap (λ ps. with_each ps i (Ok all)) (places tt)
      ∙ ap (λ j. with_each (jumps_out scope rows arms (length code)) j (Ok all)) (leads tt)
      ∙ ap (λ c. with_each (jumps_out scope rows arms (length code)) (instr.Jump out) (Ok c)) h.0
      ∙ outs_set rows arms code tail (length code) refl)) (refl, refl)
  all_set (Ok code) (Err (Memory _)) f rows arms tail outs i h places leads =
      subst (λ s. HasMore false (Ok code) s (arms_code scope out rows arms (length code) ++ tail)) (sym (each_lost outs i (Memory the_refusal))) tt
  all_set (Ok code) (Err TooLarge) f rows arms tail outs i h places leads =
      subst (λ s. HasMore false (Ok code) s (arms_code scope out rows arms (length code) ++ tail)) (sym (each_lost outs i TooLarge))
      (ap (λ n. nat_lt 1000000 n || false)
      (omega (
        arith,
        arms_long rows arms (length code),
        length-append code (arms_code scope 0 rows arms (length code) ++ tail),
        length-append code (arms_code scope out rows arms (length code) ++ tail),
        length-append (arms_code scope 0 rows arms (length code)) tail,
        length-append (arms_code scope out rows arms (length code)) tail,
      )) ∙ h)
  all_set (Err loss) e f rows arms tail outs i h places leads = ap (with_each outs i) h ∙ each_lost outs i loss

-- a case statement
pub case_gets : {a b c d e f : Seen} (scope : Scope) (head : CaseHead) (arms : List Placed) (outs : List ℕ) → Gets a b (expr_code scope head.index)
    → Gets b c (arms_code scope 0 head.constants.items arms (place_of b))
    → (IsKept c → outs ≡ jumps_out scope head.constants.items arms (place_of b)) → Gets c d (instr.Fail head.site ∷ [])
    → Gets d e (instr.JumpIfFalse (place_of d + 1) ∷ []) → f ≡ with_each outs (instr.Jump (place_of d)) e
    → Gets a f (case_code head arms scope (place_of a))
case_gets {a = a} {b = b} {c = c} {d = d} {e = e} {f = f} scope head arms outs index code places fail last is =
    let rows = head.constants.items in
    let test = expr_code scope head.index in
    let first = place_of a + length test in
    let out = first + length (arms_code scope 0 rows arms first) + 1 in
    let begin = λ (kept : IsKept b). place_behind index kept in
    let out_is = λ (kept : IsKept d).
    let behind = kept_before fail kept in
    let there : place_of d ≡ out =
    omega (
      arith,
      place_behind (gets_then code fail) kept,
      begin (kept_before code behind),
      length-append (arms_code scope 0 rows arms (place_of b)) (instr.Fail head.site ∷ []),
      ap (λ n. length (arms_code scope 0 rows arms n)) (begin (kept_before code behind)),
    ) in
    there in
    let tail = instr.Fail head.site ∷ instr.JumpIfFalse (out + 1) ∷ [] in
    let ends = gets_then fail (gets_same last (λ kept. ap (λ n. instr.JumpIfFalse (n + 1) ∷ []) (out_is kept))) in
    let all = gets_then code ends in
    let set = all_set scope out b e f rows arms tail outs (instr.Jump (place_of d)) all.more (λ kept. places (kept_before ends kept))
    (λ kept. ap instr.Jump (out_is (kept_before last kept))) in
    gets_then index (gets_same (subst (λ s. Gets b s (arms_code scope out rows arms (place_of b) ++ tail)) (sym is) (record { more = set }))
    (λ kept. ap (λ n. arms_code scope out rows arms n ++ tail) (begin kept)))
