-- A rule stops for nesting only where the tokens up to the place that it tells open as many levels as are left.
use Rattle.std.proofs.Common.{◌≡◌, ℕ, zero, suc, ◌+◌, ◌≤◌, length, Bool, true, false, if◌then◌else◌, List, [], ◌∷◌, ◌++◌, Option, Some, None, Ok, Err}
use Rattle.std.proofs.Common.{refl, subst, sym, ap, ◌∙◌, append_assoc, arith}
use Rattle.place.specs.declared.Place.{Place}
use Rattle.lexer.specs.declared.token.Kind.{Kind}
use Rattle.lexer.specs.declared.token.Kind.TheVariants as kind
use Rattle.lexer.specs.declared.token.Symbol.{Symbol}
use Rattle.lexer.specs.declared.token.Token.{Token}
use Rattle.reading.specs.declared.refusal.Refusal.{Refusal}
use Rattle.reading.specs.declared.refusal.Refusal.TheVariants.{NoProgram, TooDeep}
use Rattle.reading.specs.Deep.{opens, opened, StandsBetween, last, next, end, OpensUpTo}
use Rattle.reading.specs.Lexemes.{Spelling, Reads, of_kind_at, of_text}
use Rattle.reading.specs.Reading.{Outcome, Reading, and_then, ◌>>=◌, pure, refuse, too_deep, here, peek, next_kind, next_place, take_if, token_by, same_kind}
use Rattle.reading.specs.Reading.{taken}
use Rattle.reading.specs.Reading.{text_taken, number_in, number_taken, sign_in, sign_taken, direction_in, direction_taken, operator_in, of_level}
use Rattle.reading.specs.Reading.{operator_taken, relational_in, relational_taken}
use Rattle.reading.specs.Reading.{is_forward, forward_taken, on, choose, or_refuse, expect, expect_name, led_turn, separated, next_turn, many}
use Rattle.reading.specs.Reading.{Turn, more, ends, turned, loop_from, loop}
use Rattle.reading.proofs.Makes.{Makes, split, ReadingTakes, taken_makes, expect_makes, token_makes, Took}

-- ---- what was read stands before what is left

pub record Front (levels : ℕ) (start tokens : List Token) : Type 0 where
  pub front : List Token
  pub are : start ≡ front ++ tokens
  pub many : levels ≤ opened front

pub at_start : {tokens : List Token} → Front 0 tokens tokens
at_start = record { front = []; are = refl; many = omega arith }

abbrev pub opens_of : Spelling → ℕ
opens_of [] = 0
opens_of (l ∷ s) = opens l.kind + opens_of s

pub front_of : (s : Spelling) (a b : List Token) → Reads a s b → Front (opens_of s) a b
front_of [] a b h = record { front = []; are = h; many = omega arith }
front_of (l ∷ s) a b h =
    let f = front_of s h.1 b h.4 in
    record {
      front = h.0 ∷ f.front;
      are = h.2 ∙ ap (λ ts. h.0 ∷ ts) f.are;
      many = let first = ap opens h.3.kind in let others = f.many in omega arith;
    }

opened_both : (a b : List Token) → opened (a ++ b) ≡ opened a + opened b
opened_both [] b = omega arith
opened_both (t ∷ ts) b = let e = opened_both ts b in omega arith

pub further : {n m : ℕ} {a b c : List Token} → Front n a b → Front m b c → Front (n + m) a c
further {n} {m} {a} {b} {c} f g = record {
  front = f.front ++ g.front;
  are = f.are ∙ ap (λ ts. f.front ++ ts) g.are ∙ sym (append_assoc f.front g.front c);
  many = let both = opened_both f.front g.front in let x = f.many in let y = g.many in omega arith;
}

stands_behind : (place : Option Place) (front before behind : List Token) → StandsBetween place before behind → StandsBetween place (front ++ before) behind
stands_behind place front before behind (last first token e p) =
    last (front ++ first) token (ap (λ ts. front ++ ts) e ∙ sym (append_assoc front first (token ∷ []))) p
stands_behind place front before behind (next token others e p) = next token others e p
stands_behind place front before behind (end e p) = end e p

pub up_to_behind : {n m : ℕ} {least : ℕ} {place : Option Place} {start tokens : List Token} → Front m start tokens → least ≤ n + m → OpensUpTo n place tokens
    → OpensUpTo least place start
up_to_behind {place = place} f less h = record {
  before = f.front ++ h.before;
  behind = h.behind;
  are = f.are ∙ ap (λ ts. f.front ++ ts) h.are ∙ sym (append_assoc f.front h.before h.behind);
  many = let both = opened_both f.front h.before in let x = h.many in let y = f.many in omega arith;
  stands = stands_behind place f.front h.before h.behind h.stands;
}

stands_first : (tokens : List Token) → StandsBetween (next_place tokens) [] tokens
stands_first [] = end refl refl
stands_first (t ∷ ts) = next t ts refl refl

-- ---- rules

-- what a rule leaves stands at the end of its tokens, and where it stops for nesting, those up to the place open so many
-- levels
pub record Nests {A : Type 0} (levels : ℕ) (p : Reading A) : Type 0 where
  pub leaves : (tokens : List Token) (a : A) (mid : List Token) → p tokens ≡ Ok (a, mid) → Front 0 tokens mid
  pub deep : (tokens : List Token) (at : Option Place) (left : List Token) → p tokens ≡ Err (TooDeep at, left) → OpensUpTo levels at tokens

pub fewer_levels : {A : Type 0} {n : ℕ} {p : Reading A} (m : ℕ) → m ≤ n → Nests n p → Nests m p
fewer_levels m less h = record { leaves = h.leaves; deep = λ tokens at left e. up_to_behind at_start (omega arith) (h.deep tokens at left e) }

pub same_stop : {A : Type 0} (stop other : Refusal × List Token) → ◌≡◌ {A = Outcome A} (Err stop) (Err other) → stop ≡ other
same_stop stop other e = cc

-- one behind another, where the first opens some levels
pub then_opened : {A B : Type 0} {n m least : ℕ} {p : Reading A} {f : A → Reading B}
    → ((tokens : List Token) (a : A) (mid : List Token) → p tokens ≡ Ok (a, mid) → Front m tokens mid)
    → ((tokens : List Token) (at : Option Place) (left : List Token) → p tokens ≡ Err (TooDeep at, left) → OpensUpTo least at tokens)
    → least ≤ n + m → ((a : A) → Nests n (f a)) → Nests least (p >>= f)
then_opened {A} {B} {n} {m} {least} {p} {f} front first less rest = record {
  leaves = λ tokens b end e.
      let x = split (p tokens) f (b, end) e in
      let g = further (front tokens x.0.0 x.0.1 x.1) ((rest x.0.0).leaves x.0.1 b end x.2) in
      record { front = g.front; are = g.are; many = omega arith };
  deep = λ tokens at left e. by tokens (p tokens) refl at left e;
}
  where
    by : (tokens : List Token) (o : Outcome A) → p tokens ≡ o → (at : Option Place) (left : List Token) → and_then o f ≡ Err (TooDeep at, left) → OpensUpTo
        least at tokens
    by tokens (Ok made) is at left e = up_to_behind (front tokens made.0 made.1 is) less ((rest made.0).deep made.1 at left e)
    by tokens (Err stop) is at left e = first tokens at left (is ∙ ap Err (same_stop {A = B} stop (TooDeep at, left) e))

pub nests_then : {A B : Type 0} {n : ℕ} {p : Reading A} {f : A → Reading B} → Nests n p → ((a : A) → Nests n (f a)) → Nests n (p >>= f)
nests_then first rest = then_opened {m = 0} first.leaves first.deep (omega arith) rest

pub nests_pure : {A : Type 0} {n : ℕ} (a : A) → Nests n (pure a)
nests_pure a = record {
  leaves = λ tokens b mid e. record { front = []; are = (let x : (a, tokens) ≡ (b, mid) = cc in ap (λ (m : _ × List Token). m.1) x); many = omega arith };
  deep = λ tokens at left e. absurd cc;
}

pub other_refusal : (tokens : List Token) (at : Option Place) (left : List Token) → ◌≡◌ {A = Refusal × List Token} (NoProgram, tokens) (TooDeep at, left) → ⊥
other_refusal tokens at left e = let x : NoProgram ≡ TooDeep at = ap (λ (m : Refusal × List Token). m.0) e in absurd cc

pub nests_refuse : {A : Type 0} {n : ℕ} → Nests {A = A} n refuse
nests_refuse {A} = record {
  leaves = λ tokens b mid e. absurd cc;
  deep = λ tokens at left e. absurd (other_refusal tokens at left (same_stop {A = A}
      (NoProgram, tokens) (TooDeep at, left) e));
}

pub nests_choose : {A B : Type 0} {n : ℕ} {some : A → Reading B} {none : Reading B} (found : Option A) → ((a : A) → Nests n (some a)) → Nests n none
    → Nests n (choose found some none)
nests_choose (Some a) f g = f a
nests_choose None f g = g

pub nests_on : {A B : Type 0} {n : ℕ} {p : Reading (Option A)} {some : A → Reading B} {none : Reading B} → Nests n p → ((a : A) → Nests n (some a)) → Nests
    n none
    → Nests n (on p some none)
nests_on {some = some} {none} h f g = nests_then h (λ found. nests_choose {some = some} {none = none} found f g)

pub nests_if : {A : Type 0} {n : ℕ} {p q : Reading A} (b : Bool) → Nests n p → Nests n q → Nests n (if b then p else q)
nests_if true f g = f
nests_if false f g = g

pub nests_peek : {n : ℕ} → Nests n peek
nests_peek = record {
  leaves = λ tokens a mid e. record {
    front = [];
    are = (let x : (next_kind tokens, tokens) ≡ (a, mid) = cc in ap (λ (m : Option Kind × List Token). m.1)
        x);
    many = omega arith;
  };
  deep = λ tokens at left e. absurd cc;
}

pub nests_here : {n : ℕ} → Nests n here
nests_here = record {
  leaves = λ tokens a mid e. record {
    front = [];
    are = (let x : (next_place tokens, tokens) ≡ (a, mid) = cc in ap (λ (m : Option Place × List Token). m.1)
        x);
    many = omega arith;
  };
  deep = λ tokens at left e. absurd cc;
}

pub same_place : (p q : Option Place) (a b : List Token) → ◌≡◌ {A = Refusal × List Token} (TooDeep p, a) (TooDeep q, b) → p ≡ q
same_place p q a b e = let f : TooDeep p ≡ TooDeep q = ap (λ (m : Refusal × List Token). m.0) e in cc

-- no level is left where the next token stands
pub nests_nowhere : {A : Type 0} → Nests {A = A} 0 (here >>= too_deep)
nests_nowhere {A} = record {
  leaves = λ tokens a mid e. absurd cc;
  deep = λ tokens at left e.
      let same : next_place tokens ≡ at = same_place (next_place tokens) at tokens left (same_stop {A = A} (TooDeep (next_place tokens), tokens) (
        TooDeep
            at,
        left,
      ) e) in
      record { before = []; behind = tokens; are = refl; many = omega arith; stands = subst (λ q. StandsBetween q [] tokens) same (stands_first tokens) };
}

take_never : {A : Type 0} (o : Option A) (token : Token) (others : List Token) (stop : Refusal × List Token) → take_if o token others ≡ Err stop → ⊥
take_never (Some a) token others stop e = absurd cc
take_never None token others stop e = absurd cc

took_front : {A : Type 0} (test : Token → Option A) (tokens : List Token) (found : Option A) (mid : List Token) → Took test tokens found mid → Front 0
    tokens mid
took_front test tokens (Some a) mid (token, e, h) = record { front = token ∷ []; are = e; many = omega arith }
took_front test tokens None mid (e, h) = record { front = []; are = e; many = omega arith }

pub nests_token : {A : Type 0} {n : ℕ} (test : Token → Option A) → Nests n (token_by test)
nests_token {A} {n} test = record { leaves = λ tokens a mid e. took_front test tokens a mid ((token_makes test tokens).makes (a, mid) e); deep = by }
  where
    by : (tokens : List Token) (at : Option Place) (left : List Token) → token_by test tokens ≡ Err (TooDeep at, left) → OpensUpTo n at tokens
    by [] at left e = absurd cc
    by (token ∷ others) at left e = absurd (take_never (test token) token others (TooDeep at, left) e)

pub nests_taken : {n : ℕ} (k : Kind) → Nests n (taken k)
unfolding taken
nests_taken k = nests_token (λ token. if same_kind token.kind k then Some token.place else None)

pub nests_text : {n : ℕ} (k : Kind) → Nests n (text_taken k)
unfolding text_taken
nests_text k = nests_token (λ token. if same_kind token.kind k then Some (of_text k token.text.now token.place) else None)

pub nests_number : {n : ℕ} → Nests n number_taken
unfolding number_taken
nests_number = nests_token (λ token. number_in token.kind token.place)

pub nests_sign : {n : ℕ} → Nests n sign_taken
unfolding sign_taken
nests_sign = nests_token (λ token. sign_in token.kind token.place)

pub nests_direction : {n : ℕ} → Nests n direction_taken
unfolding direction_taken
nests_direction = nests_token (λ token. direction_in token.kind)

pub nests_operator : {n : ℕ} (level : ℕ) → Nests n (operator_taken level)
unfolding operator_taken
nests_operator level = nests_token (λ token. of_level level (operator_in token.kind) token.place)

pub nests_relational : {n : ℕ} → Nests n relational_taken
unfolding relational_taken
nests_relational = nests_token (λ token. relational_in token.kind token.place)

pub nests_forward : {n : ℕ} → Nests n forward_taken
unfolding forward_taken
nests_forward = nests_token (λ token. if is_forward token then Some (tt {0}) else None)

pub nests_wanted : {A : Type 0} {n : ℕ} (found : Option A) → Nests n (or_refuse found)
nests_wanted (Some a) = nests_pure a
nests_wanted None = nests_refuse

pub nests_expect : {n : ℕ} (k : Kind) → Nests n (expect k)
nests_expect k = nests_then (nests_taken k) nests_wanted

pub nests_name : {n : ℕ} → Nests n expect_name
nests_name = nests_then (nests_text kind.Identifier) nests_wanted

-- behind a token that opens a level
pub opening : {B : Type 0} {n : ℕ} {f : Place → Reading B} (k : Kind) → opens k ≡ 1 → ((place : Place) → Nests n (f place)) → Nests (suc n) (expect k >>= f)
opening {B} {n} {f} k one rest =
    then_opened {m = 1} (λ tokens place mid e.
    let g = front_of (of_kind_at k place ∷ []) tokens mid ((expect_makes k tokens).makes (place, mid) e) in record {
      front = g.front;
      are = g.are;
      many =
          let m = g.many in omega arith;
    })
    (nests_expect k).deep (omega arith) rest

taken_never : (k : Kind) (tokens : List Token) (stop : Refusal × List Token) → taken k tokens ≡ Err stop → ⊥
unfolding taken
taken_never k [] stop e = absurd cc
taken_never k (token ∷ others) stop e = take_never (if same_kind token.kind k then Some token.place else None) token others stop e

-- a choice, where the token that is taken opens a level
pub on_opening : {B : Type 0} {n : ℕ} {some : Place → Reading B} {none : Reading B} (k : Kind) → opens k ≡ 1 → ((place : Place) → Nests n (some place))
    → Nests (suc n) none → Nests (suc n) (on (taken k) some none)
on_opening {B} {n} {some} {none} k one f g = record {
  leaves = λ tokens b rest e.
      let x = split (taken k tokens) (λ found. choose found some none) (b, rest) e in
      let h = further ((nests_taken {n = 0} k).leaves tokens x.0.0 x.0.1 x.1) (chosen_leaves x.0.0 x.0.1 b rest x.2) in
      record { front = h.front; are = h.are; many = omega arith };
  deep = λ tokens at left e. by tokens (taken k tokens) refl at left e;
}
  where
    chosen_leaves : (found : Option Place) (mid : List Token) (b : B) (rest : List Token) → choose found some none mid ≡ Ok (b, rest) → Front 0 mid rest
    chosen_leaves (Some place) mid b rest e = (f place).leaves mid b rest e
    chosen_leaves None mid b rest e = g.leaves mid b rest e

    chosen_deep : (tokens : List Token) (found : Option Place) (mid : List Token) → ReadingTakes k tokens found mid → (at : Option Place) (left : List Token)
        → choose found some none mid ≡ Err (TooDeep at, left) → OpensUpTo (suc n) at tokens
    chosen_deep tokens (Some place) mid r at left e =
        let h = front_of (of_kind_at k place ∷ []) tokens mid r in up_to_behind h (omega arith) ((f place).deep mid at left e)
    chosen_deep tokens None mid r at left e =
        let h : Front 0 tokens mid = record { front = []; are = r.0; many = omega arith } in up_to_behind h (omega arith) (g.deep mid at left e)

    by : (tokens : List Token) (o : Outcome (Option Place)) → taken k tokens ≡ o → (at : Option Place) (left : List Token)
        → and_then o (λ found. choose found some none) ≡ Err (TooDeep at, left) → OpensUpTo (suc n) at tokens
    by tokens (Ok made) is at left e = chosen_deep tokens made.0 made.1 ((taken_makes k tokens).makes made is) at left e
    by tokens (Err stop) is at left e = absurd (taken_never k tokens stop is)

-- ---- loops

module _ {S A B : Type 0} (turn : S → Reading (Turn S A B)) (levels : S → ℕ) where
  -- a turn, by how many levels are told of the one behind it
  abbrev pub Steps : S → List Token → Turn S A B → List Token → Type 0
  Steps state tokens (more new a) mid = (n : ℕ) × Front n tokens mid × (levels state ≤ levels new + n)
  Steps state tokens (ends b) mid = Front 0 tokens mid

  pub record Turns : Type 0 where
    pub steps : (state : S) (tokens : List Token) → Makes (turn state) tokens (Steps state tokens)
    pub deep : (state : S) (tokens : List Token) (at : Option Place) (left : List Token) → turn state tokens ≡ Err (TooDeep at, left) → OpensUpTo (levels
        state) at tokens

  abbrev Leaves : ℕ → Type 0
  Leaves n = (state : S) (tokens : List Token) (made : (List A × B) × List Token) → loop_from n turn state tokens ≡ Ok made → Front 0 tokens made.1

  abbrev Stops : ℕ → Type 0
  Stops n =
      (state : S) (tokens : List Token) (at : Option Place) (left : List Token) → loop_from n turn state tokens ≡ Err (TooDeep at, left) → OpensUpTo (levels
      state) at tokens

  turned_leaves : (n : ℕ) → Leaves n → (state : S) (tokens : List Token) (made : (List A × B) × List Token) (t : Turn S A B) (mid : List Token) → Steps
      state tokens t mid
      → turned (loop_from n turn) t mid ≡ Ok made → Front 0 tokens made.1
  turned_leaves n again state tokens made (more new a) mid s f =
      let y = split (loop_from n turn new mid) (λ r. pure (a ∷ r.0, r.1)) made f in
      let g = further s.1 (again new mid y.0 y.1) in
      let same : y.0.1 ≡ made.1 = (let z = y.2 in let u : ((a ∷ y.0.0.0, y.0.0.1), y.0.1) ≡ made = cc in ap (λ (m : (List A × B) × List Token). m.1) u) in
      subst (λ t. Front 0 tokens t) same (record { front = g.front; are = g.are; many = omega arith })
  turned_leaves n again state tokens made (ends b) mid s f =
      let u : (([], b), mid) ≡ made = cc in subst (λ t. Front 0 tokens t) (ap (λ (m : (List A × B) × List Token). m.1) u) s

  behind_stops : (n : ℕ) → Stops n → (state : S) (tokens : List Token) (at : Option Place) (left : List Token) (a : A) (new : S) (mid : List Token) (m : ℕ)
      → Front m tokens mid → levels state ≤ levels new + m → (o : Outcome (List A × B)) → loop_from n turn new mid ≡ o
      → and_then {B = List A × B} o (λ r. pure (a ∷ r.0, r.1)) ≡ Err (TooDeep at, left) → OpensUpTo (levels state) at tokens
  behind_stops n again state tokens at left a new mid m f less (Ok made) is e = absurd cc
  behind_stops n again state tokens at left a new mid m f less (Err stop) is e =
      up_to_behind f less (again new mid at left (is ∙ ap Err (same_stop {A = List A × B} stop (TooDeep at, left) e)))

  turned_stops : (n : ℕ) → Stops n → (state : S) (tokens : List Token) (at : Option Place) (left : List Token) (t : Turn S A B) (mid : List Token) → Steps
      state tokens t mid
      → turned (loop_from n turn) t mid ≡ Err (TooDeep at, left) → OpensUpTo (levels state) at tokens
  turned_stops n again state tokens at left (more new a) mid s e = behind_stops n again state tokens at left a new mid s.0 s.1 s.2 (loop_from n turn new
      mid) refl e
  turned_stops n again state tokens at left (ends b) mid s e = absurd cc

  module _ (turns : Turns) where
    from_leaves : (n : ℕ) → Leaves n
    from_leaves zero state tokens made e = absurd cc
    from_leaves (suc n) state tokens made e =
        let x = split (turn state tokens) (turned (loop_from n turn)) made e in
        turned_leaves n (from_leaves n) state tokens made x.0.0 x.0.1 ((turns.steps state tokens).makes x.0 x.1) x.2

    from_turn : (n : ℕ) → Stops n → (state : S) (tokens : List Token) (at : Option Place) (left : List Token) (o : Outcome (Turn S A B)) → turn state tokens ≡ o
        → and_then o (turned (loop_from n turn)) ≡ Err (TooDeep at, left) → OpensUpTo (levels state) at tokens
    from_turn n again state tokens at left (Ok made) is e = turned_stops n again state tokens at left made.0 made.1 ((turns.steps state tokens).makes made is) e
    from_turn n again state tokens at left (Err stop) is e = turns.deep state tokens at left (is ∙ ap Err (same_stop {A = List A × B} stop (
      TooDeep at,
      left,
    ) e))

    from_deep : (n : ℕ) → Stops n
    from_deep zero state tokens at left e = absurd (other_refusal tokens at left (same_stop {A = List A × B} (NoProgram, tokens) (TooDeep at, left) e))
    from_deep (suc n) state tokens at left e = from_turn n (from_deep n) state tokens at left (turn state tokens) refl e

    pub loop_nests : (state : S) → Nests (levels state) (loop turn state)
    unfolding loop
    loop_nests state = record {
      leaves = λ tokens r mid e. from_leaves (suc (length tokens)) state tokens (r, mid) e;
      deep = λ tokens at left e. from_deep (suc (length tokens)) state tokens at left e;
    }

-- where each turn is told of as many levels
pub nests_loop : {S A B : Type 0} {n : ℕ} (turn : S → Reading (Turn S A B)) → ((state : S) → Nests n (turn state)) → (state : S) → Nests n (loop turn state)
nests_loop {S} {A} {B} {n} turn each state =
    loop_nests turn (λ s. n) (record {
      steps = λ s tokens. record { makes = λ made e. by s tokens made.0 made.1 ((each s).leaves tokens made.0 made.1 e) };
      deep = λ s. (each s).deep;
    }) state
  where
    by : (s : S) (tokens : List Token) (t : Turn S A B) (mid : List Token) → Front 0 tokens mid → Steps turn (λ (s : S). n) s tokens t mid
    by s tokens (more new a) mid f = (0, f, omega arith)
    by s tokens (ends b) mid f = f

pub nests_separated : {A : Type 0} {n : ℕ} (s : Symbol) {part : Reading A} → Nests n part → Nests n (separated s part)
unfolding separated led_turn
nests_separated s {part} h =
    nests_then h (λ one. nests_then (nests_loop (led_turn s part)
    (λ state. nests_on (nests_taken (kind.Symbol s)) (λ p. nests_then h (λ a. nests_pure (more tt a))) (nests_pure (ends tt))) tt) (λ others. nests_pure
    (one ∷ others.0)))

pub nests_many : {A : Type 0} {n : ℕ} (test : Option Kind → Bool) {part : Reading A} → Nests n part → Nests n (many test part)
unfolding many next_turn
nests_many test {part} h =
    nests_then (nests_loop (next_turn test part)
    (λ state. nests_then nests_peek (λ next. nests_if {p = part >>= (λ a. pure (more tt a))} {q = pure (ends tt)} (test next) (nests_then h (λ a. nests_pure
    (more tt a))) (nests_pure (ends tt)))) tt)
    (λ r. nests_pure r.0)

pub leaves_make : {A : Type 0} {n : ℕ} {p : Reading A} → Nests n p → (tokens : List Token) → Makes p tokens (λ a mid. Front 0 tokens mid)
leaves_make h tokens = record { makes = λ made e. h.leaves tokens made.0 made.1 e }
