-- The records of a with, as they are opened one after another.
use Rattle.std.proofs.Common.{◌≡◌, ℕ, ◌+◌, ◌≤◌, List, [], ◌∷◌, ◌++◌, ap, refl, sym, ◌∙◌, arith}
use Rattle.std.specs.Prelude.{suc, zero}
use Rattle.std.proofs.Common.{drop, length}
use Rattle.pcode_assembler.specs.declared.instr.Instr.{Instr}
use Rattle.typed_tree.specs.declared.tree.WithRecord.{WithRecord}
use Rattle.code_scheme.specs.declared.home.Home.{Home}
use Rattle.code_scheme.specs.Code.{Placed, records_code, release_code, with_code}
use Rattle.code_scheme.specs.Scopes.{Scope, count, with_record, with_records}
use Rattle.code_scheme.specs.Sizes.{capped}
use Rattle.code_emitter.specs.Emitted.{Gets, IsKept, Seen, place_of}
use Rattle.code_emitter.specs.Pieces.{among, record_code}
use Rattle.code_emitter.proofs.Emitted.{Left, gets_placed, gets_same, gets_then, kept_before, left_is, left_more}

-- one more behind some
opened_behind : (n : ℕ) (scope : Scope) → with_records (suc n) scope ≡ with_record (with_records n scope)
opened_behind zero scope = refl
opened_behind (suc n) scope = opened_behind n (with_record scope)

pub opened_more : (n : ℕ) (scope : Scope) → with_records (n + 1) scope ≡ with_record (with_records n scope)
opened_more n scope =
    let next : n + 1 ≡ suc n = omega arith in
    ap (λ k. with_records k scope) next ∙ opened_behind n scope

-- the scope behind some, by where all lie
pub opened_is : (n : ℕ) (scope : Scope) → scope.next ≤ 16777216 → with_records n scope ≡ among scope (with_records n scope).records n
opened_is zero scope few =
    let next : scope.next ≡ count (scope.next + 0) = omega (arith, few) in
    ap (λ k. record scope { next = k }) next
opened_is (suc n) scope few =
    let next : count (count (scope.next + 1) + n) ≡ count (scope.next + suc n) = omega arith in
    opened_is n (with_record scope) (omega arith) ∙ ap (λ k. record scope { next = k; records = (with_records n (with_record scope)).records }) next

-- where the row tells where all lie
pub opened_among : (n cells : ℕ) (scope : Scope) (held : List Home) → scope.next ≤ 16777216 → cells ≡ capped n → held ≡ (with_records n scope).records
    → among scope held cells ≡ with_records n scope
opened_among n cells scope held few many is =
    let next : count (scope.next + cells) ≡ count (scope.next + n) = omega (arith, many) in
    ap (λ h. among scope h cells) is
    ∙ ap (λ k. record scope { next = k; records = (with_records n scope).records }) next
    ∙ sym (opened_is n scope few)

-- one record more is emitted
module _ (scope : Scope) (few : scope.next ≤ 16777216) (records : List WithRecord) (i cells : ℕ) (many : cells ≡ capped i) (held : List Home) where
  pub record_left : {a b c : Seen} {whole : List Instr} (one : WithRecord) → drop i records ≡ one ∷ drop (i + 1) records
      → (IsKept b → held ≡ (with_records i scope).records) → Left a b (records_code (with_records i scope) (drop i records)) whole
      → Gets b c (record_code (among scope held cells) one)
      → Left a c (records_code (with_records (i + 1) scope) (drop (i + 1) records)) whole
  record_left one next tells left g =
      let opened = with_records i scope in
      let emitted = gets_same g (λ kept. ap (λ s. record_code s one) (opened_among i cells scope held few many (tells kept))) in
      left_is (left_more (left_is left (ap (records_code opened) next)) emitted)
      (ap (λ s. records_code s (drop (i + 1) records)) (sym (opened_more i scope)))

  pub record_held : {b c : Seen} {p : List Instr} (held' : List Home) → (IsKept b → held ≡ (with_records i scope).records) → Gets b c p
      → (IsKept c → held' ≡ (with_record (among scope held cells)).records) → IsKept c → held' ≡ (with_records (i + 1) scope).records
  record_held held' tells g more kept =
      more kept
      ∙ ap (λ s. (with_record s).records) (opened_among i cells scope held few many (tells (kept_before g kept)))
      ∙ ap (λ (s : Scope). s.records) (sym (opened_more i scope))

-- a with statement
pub with_gets : {a b c d e : Seen} (scope : Scope) (records : List WithRecord) (body : Placed) (held : List Home) (cells : ℕ) → scope.next ≤ 16777216
    → cells ≡ capped (length records) → Gets a b [] → Gets b c (records_code scope records)
    → (IsKept c → held ≡ (with_records (length records) scope).records) → Gets c d (body (among scope held cells) (place_of c))
    → Gets d e (release_code (length records) (place_of d)) → Gets a e (with_code records body scope (place_of a))
with_gets {c = c} scope records body held cells few many none addresses tells inside release =
    let n = length records in
    let opened = with_records n scope in
    let emitted = gets_same inside (λ kept. ap (λ s. body s (place_of c)) (opened_among n cells scope held few many (tells kept))) in
    gets_placed (λ place. body opened place ++ release_code n (place + length (body opened place))) (gets_then none addresses)
    (gets_placed (release_code n) emitted release)
