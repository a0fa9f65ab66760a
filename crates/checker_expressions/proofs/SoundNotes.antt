-- What a walk notes of the operands of operators is so of their values in the evaluation.
use Rattle.std.proofs.Common.{◌≡◌, ◌∙◌, ap, ap₂, refl, sym, subst, ℕ, Bool, true, false, ◌&&◌, List, [], ◌∷◌, ◌++◌, map, Some, None}
use Rattle.std.proofs.Common.{rules}
use Rattle.std.specs.List.{list_all}
use Rattle.std.specs.declared.alloc.Global.{Global}
use Rattle.std.specs.declared.boxed.Box.{Box}
use Rattle.std.specs.declared.vec.Vec.{Vec}
use Rattle.std.proofs.lemmas.Bool.{and_parts}
use Rattle.std.proofs.lemmas.Option.{none-some}
use Rattle.typed_tree.specs.declared.tree.Scalar.{Scalar}
use Rattle.typed_tree.specs.declared.tree.Scalar.TheVariants as scalar
use Rattle.typed_tree.specs.declared.tree.Expr.{Expr}
use Rattle.typed_tree.specs.declared.tree.Expr.TheVariants as expr
use Rattle.typed_tree.specs.declared.tree.Link.{Link}
use Rattle.typed_tree.specs.declared.tree.Passed.{Passed}
use Rattle.typed_tree.specs.declared.tree.Expr.TheOpen.{Expr-F, Link-F}
use Rattle.typed_tree.specs.declared.tree.Expr.TheOpen.Expr-F.{Constant, Variable, Monadic as MonadicOf, Chain, Compare, Call as CallOf, Set as SetOf, Input}
use Rattle.typed_tree.specs.declared.tree.Expr.TheViews.{roll-Expr, roll-Link}
use Rattle.typed_tree.specs.declared.tree.Expr.TheFolds.{fold-Link, fold-roll-Expr, fold-roll-Link, ind-Expr, map-Expr, map-Link, the_lemmas}
use Rattle.typed_tree.specs.Kinds.{Held, expression_held, given, held_by, is_held, is_held_passed, link_held, links_held, passed_held, taken_left}
use Rattle.typed_tree.specs.Kinds.{taken_right}
use Rattle.typed_tree.specs.Records.{Begin, OpenRecord, all_begin, begins, expression_begins, link_begins, passed_begin, passed_begins}
use Rattle.typed_tree.specs.WellFormed.{Outline, all_hold, dyadic_is_well_formed, expr_is_well_formed, is_well_formed_expr, is_well_formed_link}
use Rattle.typed_tree.specs.WellFormed.{is_well_formed_passed, link_is_well_formed, monadic_is_well_formed, outline_of, passed_is_well_formed}
use Rattle.meaning.specs.declared.value.Value.{Value}
use Rattle.meaning.specs.declared.value.Value.TheVariants.{Number}
use Rattle.meaning.specs.Store.{Environment, Store}
use Rattle.meaning.specs.Effect as effect
use Rattle.meaning.specs.Effect.{number_of}
use Rattle.meaning.specs.Meaning as meaning
use Rattle.meaning.specs.Meaning.{Evaluation, Passing, Surroundings, link_of, value_of}
use Rattle.checker_state.specs.State.{State}
use Rattle.checker_state.specs.declared.value.Known.{Known}
use Rattle.checker_state.specs.Values.{IsKnown}
use Rattle.checker_expressions.specs.declared.noting.Noted.{Noted}
use Rattle.checker_expressions.specs.Walk as walk
use Rattle.checker_expressions.specs.Walk.{Context, Joint, PassedPiece, Piece, Valued, Walking, first_noted, joint_of, joins, link_step, link_walk, noting_walk}
use Rattle.checker_expressions.specs.Walk.{operand_noted, passed_piece_of, passed_step, piece_of, piece_step, scalar_of, turns_noted, value_walk}
use Rattle.checker_expressions.proofs.Opened.{AreOpen}
use Rattle.checker_expressions.proofs.Scalars.{held-is, held-where}
use Rattle.checker_expressions.proofs.Sound.{World, Any_value, Behind, Good, Here, IsForetold, IsHeld, IsPartOf, Sound, SoundCalls, good-weaker, here-behind}
use Rattle.checker_expressions.proofs.Sound.{part-left, part-right, sound-enter, unbroken-left, unbroken-right}
use Rattle.checker_expressions.proofs.SoundCalls.{CallLaws, then-gives}
use Rattle.checker_expressions.proofs.SoundExpressions.{link-sound, value-sound}
use Rattle.checker_expressions.proofs.Traced.{Operands, Traced, TracedLink, Tracing, chain-evaluates, chain-traces, chain_values, first_values}
use Rattle.checker_expressions.proofs.Traced.{link-evaluates, link-traces, link_values, trace_link, trace_passed, trace_step, traced-combines}
use Rattle.checker_expressions.proofs.Traced.{traced-evaluates, traced_behind, traced_link, traced_of, traced_passed, turns_values}

-- notes tell of operands, one of each
abbrev pub AreNoted : List Noted → List Operands → Type 0
AreNoted [] [] = Unit {0}
AreNoted (note ∷ notes) (one ∷ more) = IsKnown note.left one.left × IsKnown note.right one.right × AreNoted notes more
AreNoted notes more = ⊥

noted-both : (notes others : List Noted) (some more : List Operands) → AreNoted notes some → AreNoted others more → AreNoted (notes ++ others) (some ++ more)
noted-both [] others [] more first rest = rest
noted-both [] others (one ∷ some) more first rest = absurd first
noted-both (note ∷ notes) others [] more first rest = absurd first
noted-both (note ∷ notes) others (one ∷ some) more first rest = (first.0, first.1, noted-both notes others some more first.2 rest)

-- behind a value
noted-behind : {A : Type 0} (notes others : List Noted) (some : List Operands) (reply : effect.Reply A) (a : A) (t : effect.State)
    (next : A → effect.State → List Operands) → reply ≡ effect.Gives a t → AreNoted notes some → AreNoted others (next a t)
    → AreNoted (notes ++ others) (some ++ traced_behind reply next)
noted-behind notes others some reply a t next is first rest =
    subst (λ (r : effect.Reply _). AreNoted (notes ++ others) (some ++ traced_behind r next)) (sym is)
    (noted-both notes others some (next a t) first rest)

-- the operators of a chain join conditions where those do that are traced
joint-operation : (link : Link) → (joint_of link).operation ≡ (traced_link link).operation
joint-operation link = search (rules, the_lemmas)

inside-same : (links : List Link)
    → list_all (λ joint. joins joint.operation) (map joint_of links) ≡ list_all (λ link. joins link.operation) (map traced_link links)
inside-same [] = refl
inside-same (link ∷ links) = ap₂ (λ (one more : Bool). one && more) (ap joins (joint-operation link)) (inside-same links)

-- what is wanted is what it is
same-held : (one : Scalar) → is_held one (Some one) ≡ true
same-held scalar.Ordinal = refl
same-held scalar.Set = refl

module _ (world : World) (block : ℕ) (env : Surroundings) (records : List OpenRecord) (opened : AreOpen world block env.visible records env.records)
    (laws : CallLaws world) (calls : SoundCalls world env.calls) where
  abbrev visible : Environment
  visible = env.visible

  abbrev outline : Outline
  outline = outline_of world.tree

  abbrev well_expr : Expr → Bool
  well_expr = is_well_formed_expr outline block

  abbrev well_passed : Passed → ℕ → ℕ → Bool
  well_passed = is_well_formed_passed outline block

  abbrev well_link : Link → Bool
  well_link = is_well_formed_link outline block

  abbrev held_link : Link → Held → Held
  held_link = fold-Link Held Bool (Held → Held) expression_held passed_held link_held

  abbrev begin_link : Link → Begin
  begin_link = fold-Link Begin Begin Begin expression_begins passed_begins link_begins

  -- a walk stands at a piece, which breaks no rule there and is part of the world
  record Begun {A : Type 0} (walking : Walking A) (context : Context) (state : State) (s : effect.State) : Type 0 where
    pub unbroken : (walking context state).broken ≡ []
    pub part : IsPartOf world (walking context state)
    pub here : Here world block visible context state s

  begun-first : {A B : Type 0} (first : Walking A) (next : A → Walking B) (context : Context) (state : State) (s : effect.State)
      → Begun (walk.◌>>=◌ first next) context state s → Begun first context state s
  begun-first first next context state s begun =
      let one = first context state in
      let two = next one.value context one.after in
      record {
        unbroken = unbroken-left one.broken two.broken begun.unbroken;
        part = part-left world one two begun.part;
        here = begun.here;
      }

  -- behind a piece with a value it stands at the next, and the first one's tie holds
  begun-then : {A B C : Type 0} (R : B → A → Store → Type 0) (action : effect.Action A) (first : Walking B) (next : B → Walking C) (context : Context)
      (state : State) (s t : effect.State) (a : A) → Sound world block visible R action first → Begun (walk.◌>>=◌ first next) context state s
      → action s ≡ effect.Gives a t
      → Begun (next (first context state).value) context (first context state).after t × R (first context state).value a t.store
  begun-then R action first next context state s t a sound begun is =
      let one = first context state in
      let two = next one.value context one.after in
      let P = IsForetold world visible R context one s.store in
      let good : Good world P s (action s) =
      sound context state s (unbroken-left one.broken two.broken begun.unbroken) (part-left world one two begun.part) begun.here in
      let given : Good world P s (effect.Gives a t) = subst (λ (reply : effect.Reply _). Good world P s reply) is good in
      let behind : Behind world P s a t = given.gives in (
        record {
          unbroken = unbroken-right one.broken two.broken begun.unbroken;
          part = part-right world one two begun.part;
          here = here-behind world block visible R context state one s t a begun.here behind;
        },
        behind.so.tie,
      )

  -- behind an entry
  abbrev entered : ℕ → effect.State → effect.State
  entered number s = record s { visited = s.visited ++ record { number = number; environment = visible; store = s.store } ∷ [] }

  begun-entered : {B : Type 0} (number : ℕ) (walking : Walking B) (context : Context) (state : State) (s : effect.State)
      → Begun (walk.◌>>=◌ (walk.enter number) (λ done. walking)) context state s → Begun walking context state (entered number s)
  begun-entered number walking context state s begun =
      (begun-then {A = Unit {0}} {B = Unit {0}} Any_value (effect.enter number visible) (walk.enter number) (λ done. walking) context state s
      (entered number s) tt (sound-enter world block visible number) begun refl).0

  -- what is noted in an expression tells of the operands in its evaluation
  abbrev ExprNoted : Bool → Held → Begin → Traced → Piece → Type 0
  ExprNoted well held begin traced piece =
      well ≡ true → (one : Scalar) → held ≡ Some one → begin records ≡ true → (context : Context) (state : State) (s t : effect.State) (v : Value)
      → Begun piece.walk context state s → traced.evaluation env s ≡ effect.Gives v t → AreNoted (piece.noted context state) (traced.values env s)

  -- and so at an operator, behind a value on the left
  abbrev LinkNoted : Bool → (Held → Held) → Begin → TracedLink → Joint → Type 0
  LinkNoted well held begin traced joint =
      (inside : Bool) → well ≡ true → (left one : Scalar) → held (Some left) ≡ Some one → begin records ≡ true
      → (context : Context) (state : State) (s t : effect.State) (known : Known) (v w : Value) → IsKnown known v → scalar_of known ≡ left
      → Begun (joint.combination known) context state s → traced.combination env v s ≡ effect.Gives w t
      → AreNoted (operand_noted inside known joint.right context state) (link_values inside v traced env s)

  abbrev ExprIsNoted : Expr → Type 0
  ExprIsNoted e = ExprNoted (well_expr e) (held_by e) (begins e) (traced_of e) (piece_of e)

  abbrev LinkIsNoted : Link → Type 0
  LinkIsNoted l = LinkNoted (well_link l) (held_link l) (begin_link l) (traced_link l) (joint_of l)

  abbrev NotedExpr : Type 0
  NotedExpr = (e : Expr) × ExprIsNoted e

  abbrev NotedPassed : Type 0
  NotedPassed = (p : Passed) × Unit {0}

  abbrev NotedLink : Type 0
  NotedLink = (l : Link) × LinkIsNoted l

  -- an expression is walked over as it is traced
  traced-sound : (e : Expr) (one : Scalar) → well_expr e ≡ true → held_by e ≡ Some one → begins e records ≡ true
      → Sound world block visible (IsHeld one) ((traced_of e).evaluation env) (value_walk e)
  traced-sound e one well held begin =
      subst (λ (evaluation : Evaluation). Sound world block visible (IsHeld one) (evaluation env) (value_walk e)) (sym (traced-evaluates e))
      (value-sound world block env records opened laws calls e one well
      (subst (λ (own : Held). is_held one own ≡ true) (sym held) (same-held one)) begin)

  traced_link-sound : (l : Link) (left one : Scalar) → well_link l ≡ true → held_link l (Some left) ≡ Some one → begin_link l records ≡ true
      → (known : Known) (v : Value) → IsKnown known v → scalar_of known ≡ left
      → Sound world block visible (IsHeld one) ((traced_link l).combination env v) (link_walk l known)
  traced_link-sound l left one well held begin known v inside is =
      subst (λ (combination : meaning.Combination). Sound world block visible (IsHeld one) (combination env v) (link_walk l known)) (sym (traced-combines l))
      ((link-sound world block env records opened laws calls l).1 well left one held begin known v inside is)

  -- ---- the operators of a chain

  links-none : (links : List NotedLink) → links_held None (map held_link (map (λ l. l.0) links)) ≡ None
  links-none [] = refl
  links-none (link ∷ links) =
      ap (λ (h : Held). links_held h (map held_link (map (λ (l : NotedLink). l.0) links))) (link-sound world block env records opened laws calls link.0).0
      ∙ links-none links

  turns-noted : (inside : Bool) (links : List NotedLink) → all_hold (map well_link (map (λ l. l.0) links)) ≡ true → (left one : Scalar)
      → links_held (Some left) (map held_link (map (λ l. l.0) links)) ≡ Some one → all_begin (map begin_link (map (λ l. l.0) links)) records ≡ true
      → (context : Context) (state : State) (s t : effect.State) (known : Known) (v r : Value) → IsKnown known v → scalar_of known ≡ left
      → Begun (walk.in_turn (map (λ joint. joint.combination) (map joint_of (map (λ l. l.0) links))) known) context state s
      → meaning.in_turn (map (λ link. link.combination) (map traced_link (map (λ l. l.0) links))) env v s ≡ effect.Gives r t
      → AreNoted (turns_noted inside (map joint_of (map (λ l. l.0) links)) known context state)
      (turns_values inside (map traced_link (map (λ l. l.0) links)) v env s)
  turns-noted inside [] well left one held begin context state s t known v r lies is begun gives = tt
  turns-noted inside (link ∷ links) well left one held begin context state s t known v r lies is begun gives =
      let parts = and_parts (well_link link.0) (all_hold (map well_link more)) well in
      let there = and_parts (begin_link link.0 records) (all_begin (map begin_link more) records) begin in
      by (held_link link.0 (Some left)) refl parts.0 there.0
      (λ next own context state from k w at_left same stands later.
      turns-noted inside links parts.1 next one own there.1 context state from t k w r at_left same stands later)
    where
      more : List Link
      more = map (λ (l : NotedLink). l.0) links

      by : (mid : Held) → held_link link.0 (Some left) ≡ mid → well_link link.0 ≡ true → begin_link link.0 records ≡ true
          → ((next : Scalar) → links_held (Some next) (map held_link more) ≡ Some one → (context : Context) (state : State) (from : effect.State) (k : Known)
          (w : Value) → IsKnown k w → scalar_of k ≡ next
          → Begun (walk.in_turn (map (λ joint. joint.combination) (map joint_of more)) k) context state from
          → meaning.in_turn (map (λ link. link.combination) (map traced_link more)) env w from ≡ effect.Gives r t
          → AreNoted (turns_noted inside (map joint_of more) k context state) (turns_values inside (map traced_link more) w env from))
          → AreNoted (turns_noted inside (map joint_of (link.0 ∷ more)) known context state) (turns_values inside (map traced_link (link.0 ∷ more)) v env s)
      by None mid_is first first_there later =
          absurd (none-some one (sym (ap (λ (h : Held). links_held h (map held_link more)) mid_is ∙ links-none links) ∙ held))
      by (Some mid) mid_is first first_there later =
          let own = traced_link link.0 in
          let combinations = map (λ (l : TracedLink). l.combination) (map traced_link more) in
          let walks = walk.in_turn (map (λ (joint : Joint). joint.combination) (map joint_of more)) in
          let step = then-gives (own.combination env v s) (meaning.in_turn combinations env) r t gives in
          let done = link_walk link.0 known context state in
          let rest = begun-then (IsHeld mid) (own.combination env v) (link_walk link.0 known) walks context state s step.0 step.1
          (traced_link-sound link.0 left mid first mid_is first_there known v lies is) begun step.2 in
          noted-behind (operand_noted inside known (joint_of link.0).right context state) (turns_noted inside (map joint_of more) done.value context done.after)
          (link_values inside v own env s) (own.combination env v s) step.1 step.0 (λ w u. turns_values inside (map traced_link more) w env u) step.2
          (link.1 inside first left mid mid_is first_there context state s step.0 known v step.1 lies is
          (begun-first (link_walk link.0 known) walks context state s begun) step.2)
          (later mid (sym (ap (λ (h : Held). links_held h (map held_link more)) mid_is) ∙ held) context done.after step.0 done.value step.1 rest.1.0 rest.1.1
          rest.0 step.3)

  -- ---- the layers

  abbrev plain_expr : Expr-F NotedExpr NotedPassed NotedLink → Expr-F Expr Passed Link
  plain_expr = map-Expr NotedExpr NotedPassed NotedLink Expr Passed Link (λ e. e.0) (λ p. p.0) (λ l. l.0)

  abbrev plain_link : Link-F NotedExpr NotedPassed NotedLink → Link-F Expr Passed Link
  plain_link = map-Link NotedExpr NotedPassed NotedLink Expr Passed Link (λ e. e.0) (λ p. p.0) (λ l. l.0)

  abbrev ExprLayer : Expr-F Expr Passed Link → Type 0
  ExprLayer x =
      ExprNoted (expr_is_well_formed outline block (map-Expr Expr Passed Link Bool (ℕ → ℕ → Bool) Bool well_expr well_passed well_link x))
      (expression_held (map-Expr Expr Passed Link Held Bool (Held → Held) held_by is_held_passed held_link x))
      (expression_begins (map-Expr Expr Passed Link Begin Begin Begin begins passed_begin begin_link x))
      (trace_step (map-Expr Expr Passed Link Traced Passing TracedLink traced_of traced_passed traced_link x))
      (piece_step (map-Expr Expr Passed Link Piece PassedPiece Joint piece_of passed_piece_of joint_of x))

  abbrev LinkLayer : Link-F Expr Passed Link → Type 0
  LinkLayer x =
      LinkNoted (link_is_well_formed outline block (map-Link Expr Passed Link Bool (ℕ → ℕ → Bool) Bool well_expr well_passed well_link x))
      (link_held (map-Link Expr Passed Link Held Bool (Held → Held) held_by is_held_passed held_link x))
      (link_begins (map-Link Expr Passed Link Begin Begin Begin begins passed_begin begin_link x))
      (trace_link (map-Link Expr Passed Link Traced Passing TracedLink traced_of traced_passed traced_link x))
      (link_step (map-Link Expr Passed Link Piece PassedPiece Joint piece_of passed_piece_of joint_of x))

  expr-layer : (y : Expr-F NotedExpr NotedPassed NotedLink) → ExprLayer (plain_expr y)
  expr-layer (Constant number value) well one held begin context state s t v begun gives = tt
  expr-layer (Variable access indexes own defined) well one held begin context state s t v begun gives = tt
  expr-layer (SetOf number designators members) well one held begin context state s t v begun gives = tt
  expr-layer (Compare number relation left left_indexes right right_indexes) well one held begin context state s t v begun gives = tt
  expr-layer (CallOf call actuals) well one held begin context state s t v begun gives = tt
  expr-layer (Input number asks) well one held begin context state s t v begun gives = tt
  expr-layer (MonadicOf number operation operand) well one held begin context state s t v begun gives =
      let e = operand.value.0 in
      let parts = and_parts (monadic_is_well_formed outline block operation) (well_expr e) well in
      let taken = held-where (is_held scalar.Ordinal (held_by e)) scalar.Ordinal one held in
      let meant = λ (v : Value). effect.◌>>=◌ (meaning.operated operation (number_of v)) (λ n. effect.give (Number n)) in
      let from = entered number s in
      let step = then-gives ((traced_of e).evaluation env from) meant v t gives in
      let behind = begun-entered number (walk.◌>>=◌ (value_walk e) (walk.operated operation)) context state s begun in
      operand.value.1 parts.1 scalar.Ordinal (held-is scalar.Ordinal (held_by e) taken.0) begin context state from step.0 step.1
      (begun-first (value_walk e) (walk.operated operation) context state from behind) step.2
  expr-layer (Chain first rest) well one held begin context state s t v begun gives =
      let parts = and_parts (well_expr first.value.0) (all_hold (map well_link links)) well in
      let there = and_parts (begins first.value.0 records) (all_begin (map begin_link links) records) begin in
      by (held_by first.value.0) refl parts.0 parts.1 there.0 there.1
    where
      links : List Link
      links = map (λ (l : NotedLink). l.0) rest.items

      e : Expr
      e = first.value.0

      by : (left : Held) → held_by e ≡ left → well_expr e ≡ true → all_hold (map well_link links) ≡ true → begins e records ≡ true
          → all_begin (map begin_link links) records ≡ true
          → AreNoted (walk.chain_noted (list_all (λ joint. joins joint.operation) (map joint_of links)) (piece_of e) (map joint_of links) context state)
          (Traced.values
          (trace_step (map-Expr Expr Passed Link Traced Passing TracedLink traced_of traced_passed traced_link (plain_expr (Chain first rest)))) env s)
      by None is first_well more first_there more_there =
          absurd (none-some one (sym (ap (λ (h : Held). links_held h (map held_link links)) is ∙ links-none rest.items) ∙ held))
      by (Some left) is first_well more first_there more_there =
          let own = traced_of e in
          let combinations = map (λ (l : TracedLink). l.combination) (map traced_link links) in
          let walks = walk.in_turn (map (λ (joint : Joint). joint.combination) (map joint_of links)) in
          let step = then-gives (own.evaluation env s) (meaning.in_turn combinations env) v t gives in
          let done = value_walk e context state in
          let rests = begun-then (IsHeld left) (own.evaluation env) (value_walk e) walks context state s step.0 step.1
          (traced-sound e left first_well is first_there) begun step.2 in
          let inside = list_all (λ (link : TracedLink). joins link.operation) (map traced_link links) in
          subst (λ (b : Bool). AreNoted (walk.chain_noted b (piece_of e) (map joint_of links) context state)
          (first_values inside own env s ++ traced_behind (own.evaluation env s) (λ w u. turns_values inside (map traced_link links) w env u)))
          (sym (inside-same links))
          (noted-behind (first_noted inside (piece_of e) context state) (turns_noted inside (map joint_of links) done.value context done.after)
          (first_values inside own env s) (own.evaluation env s) step.1 step.0 (λ w u. turns_values inside (map traced_link links) w env u) step.2
          (first-part inside
          (first.value.1 first_well left is first_there context state s step.0 step.1 (begun-first (value_walk e) walks context state s begun) step.2))
          (turns-noted inside rest.items more left one (sym (ap (λ (h : Held). links_held h (map held_link links)) is) ∙ held) more_there context done.after
          step.0 t done.value step.1 v rests.1.0 rests.1.1 rests.0 step.3))
        where
          first-part : (inside : Bool) → AreNoted ((piece_of e).noted context state) ((traced_of e).values env s)
              → AreNoted (first_noted inside (piece_of e) context state) (first_values inside (traced_of e) env s)
          first-part true inner = inner
          first-part false inner = tt

  link-layer : (y : Link-F NotedExpr NotedPassed NotedLink) → LinkLayer (plain_link y)
  link-layer y inside well left one held begin context state s t known v w lies is begun gives =
      let e = y.operand.0 in
      let operation = y.operation in
      let meant = meaning.operated_both operation v in
      let walked = walk.combined operation known in
      let parts = and_parts (dyadic_is_well_formed outline block operation) (well_expr e) well in
      let taken = held-where (is_held (taken_left operation) (Some left) && is_held (taken_right operation) (held_by e)) (given operation) one held in
      let operands = and_parts (is_held (taken_left operation) (Some left)) (is_held (taken_right operation) (held_by e)) taken.0 in
      let right = held-is (taken_right operation) (held_by e) operands.1 in
      let from = entered y.number s in
      let step = then-gives ((traced_of e).evaluation env from) meant w t gives in
      let behind = begun-entered y.number (walk.◌>>=◌ (value_walk e) walked) context state s begun in
      let known_right = begun-then (IsHeld (taken_right operation)) ((traced_of e).evaluation env) (value_walk e) walked context state from step.0 step.1
      (traced-sound e (taken_right operation) parts.1 right begin) behind step.2 in
      by inside
      (y.operand.1 parts.1 (taken_right operation) right begin context state from step.0 step.1
      (begun-first (value_walk e) walked context state from behind) step.2)
      (subst (λ (reply : effect.Reply Value). AreNoted (operand_noted false known (piece_of e) context state)
      (traced_behind reply (λ x u. record { left = v; right = x } ∷ []))) (sym step.2) (lies, known_right.1.0, tt))
    where
      by : (inside : Bool) → AreNoted ((piece_of y.operand.0).noted context state) ((traced_of y.operand.0).values env (entered y.number s))
          → AreNoted (operand_noted false known (piece_of y.operand.0) context state)
          (traced_behind ((traced_of y.operand.0).evaluation env (entered y.number s)) (λ x u. record { left = v; right = x } ∷ []))
          → AreNoted (operand_noted inside known (piece_of y.operand.0) context state)
          (link_values inside v (trace_link (map-Link Expr Passed Link Traced Passing TracedLink traced_of traced_passed traced_link (plain_link y))) env s)
      by true inner both = inner
      by false inner both = both

  -- by what the five folds are at a form
  rolled-expr : (x : Expr-F Expr Passed Link) → ExprLayer x → ExprIsNoted (roll-Expr x)
  rolled-expr x layer =
      subst (λ (w : Bool). ExprNoted w (held_by (roll-Expr x)) (begins (roll-Expr x)) (traced_of (roll-Expr x)) (piece_of (roll-Expr x)))
      (sym (fold-roll-Expr Bool (ℕ → ℕ → Bool) Bool (expr_is_well_formed outline block) (passed_is_well_formed outline block)
      (link_is_well_formed outline block) x))
      (subst (λ (h : Held). ExprNoted (well x) h (begins (roll-Expr x)) (traced_of (roll-Expr x)) (piece_of (roll-Expr x)))
      (sym (fold-roll-Expr Held Bool (Held → Held) expression_held passed_held link_held x))
      (subst (λ (b : Begin). ExprNoted (well x) (held x) b (traced_of (roll-Expr x)) (piece_of (roll-Expr x)))
      (sym (fold-roll-Expr Begin Begin Begin expression_begins passed_begins link_begins x))
      (subst (λ (one : Traced). ExprNoted (well x) (held x) (begin x) one (piece_of (roll-Expr x)))
      (sym (fold-roll-Expr Traced Passing TracedLink trace_step trace_passed trace_link x))
      (subst (λ (piece : Piece). ExprNoted (well x) (held x) (begin x)
      (trace_step (map-Expr Expr Passed Link Traced Passing TracedLink traced_of traced_passed traced_link x)) piece)
      (sym (fold-roll-Expr Piece PassedPiece Joint piece_step passed_step link_step x)) layer))))
    where
      well : Expr-F Expr Passed Link → Bool
      well x = expr_is_well_formed outline block (map-Expr Expr Passed Link Bool (ℕ → ℕ → Bool) Bool well_expr well_passed well_link x)

      held : Expr-F Expr Passed Link → Held
      held x = expression_held (map-Expr Expr Passed Link Held Bool (Held → Held) held_by is_held_passed held_link x)

      begin : Expr-F Expr Passed Link → Begin
      begin x = expression_begins (map-Expr Expr Passed Link Begin Begin Begin begins passed_begin begin_link x)

  rolled-link : (x : Link-F Expr Passed Link) → LinkLayer x → LinkIsNoted (roll-Link x)
  rolled-link x layer =
      subst (λ (w : Bool). LinkNoted w (held_link (roll-Link x)) (begin_link (roll-Link x)) (traced_link (roll-Link x)) (joint_of (roll-Link x)))
      (sym (fold-roll-Link Bool (ℕ → ℕ → Bool) Bool (expr_is_well_formed outline block) (passed_is_well_formed outline block)
      (link_is_well_formed outline block) x))
      (subst (λ (h : Held → Held). LinkNoted (well x) h (begin_link (roll-Link x)) (traced_link (roll-Link x)) (joint_of (roll-Link x)))
      (sym (fold-roll-Link Held Bool (Held → Held) expression_held passed_held link_held x))
      (subst (λ (b : Begin). LinkNoted (well x) (held x) b (traced_link (roll-Link x)) (joint_of (roll-Link x)))
      (sym (fold-roll-Link Begin Begin Begin expression_begins passed_begins link_begins x))
      (subst (λ (one : TracedLink). LinkNoted (well x) (held x) (begin x) one (joint_of (roll-Link x)))
      (sym (fold-roll-Link Traced Passing TracedLink trace_step trace_passed trace_link x))
      (subst (λ (joint : Joint). LinkNoted (well x) (held x) (begin x)
      (trace_link (map-Link Expr Passed Link Traced Passing TracedLink traced_of traced_passed traced_link x)) joint)
      (sym (fold-roll-Link Piece PassedPiece Joint piece_step passed_step link_step x)) layer))))
    where
      well : Link-F Expr Passed Link → Bool
      well x = link_is_well_formed outline block (map-Link Expr Passed Link Bool (ℕ → ℕ → Bool) Bool well_expr well_passed well_link x)

      held : Link-F Expr Passed Link → Held → Held
      held x = link_held (map-Link Expr Passed Link Held Bool (Held → Held) held_by is_held_passed held_link x)

      begin : Link-F Expr Passed Link → Begin
      begin x = link_begins (map-Link Expr Passed Link Begin Begin Begin begins passed_begin begin_link x)

  each-noted : (e : Expr) → ExprIsNoted e
  each-noted =
      ind-Expr ExprIsNoted (λ p. Unit {0}) LinkIsNoted
      (λ x y is. subst (λ (z : Expr-F Expr Passed Link). ExprIsNoted (roll-Expr z)) is (rolled-expr (plain_expr y) (expr-layer y))) (λ x y is. tt)
      (λ x y is. subst (λ (z : Link-F Expr Passed Link). LinkIsNoted (roll-Link z)) is (rolled-link (plain_link y) (link-layer y)))

  -- an evaluation gave a value and this store, what is known of it is so, and what was noted behind others tells of the operands in it
  pub record IsNotedValue (one : Scalar) (e : Expr) (before : List Noted) (told : Valued) (v : Value) (store : Store) : Type 0 where
    pub held : IsHeld one told.known v store
    pub notes : List Noted
    pub noted_is : told.noted ≡ before ++ notes
    pub start : effect.State
    pub behind : effect.State
    pub gives : value_of e env start ≡ effect.Gives v behind
    pub store_is : behind.store ≡ store
    pub are_noted : AreNoted notes ((traced_of e).values env start)

  pub noting-sound : (e : Expr) (one : Scalar) (before : List Noted) → well_expr e ≡ true → is_held one (held_by e) ≡ true → begins e records ≡ true
      → Sound world block visible (IsNotedValue one e before) (value_of e env) (noting_walk before e)
  noting-sound e one before well held begin context state s unbroken part here =
      let walked = value_walk e context state in
      let own : IsPartOf world walked = record { ids = part.ids; linked = part.linked } in
      good-weaker world (IsForetold world visible (IsHeld one) context walked s.store)
      (IsForetold world visible (IsNotedValue one e before) context (noting_walk before e context state) s.store) s (value_of e env s)
      (λ v t is told. record {
        tie = record {
          held = told.so.tie;
          notes = (piece_of e).noted context state;
          noted_is = refl;
          start = s;
          behind = t;
          gives = is;
          store_is = refl;
          are_noted =
              each-noted e well one (held-is one (held_by e) held) begin context state s t v (record { unbroken = unbroken; part = own; here = here })
              (ap (λ (evaluation : Evaluation). evaluation env s) (traced-evaluates e) ∙ is);
        };
        stands = told.so.stands;
        kept = told.so.kept;
      })
      (value-sound world block env records opened laws calls e one well held begin context state s unbroken own here)

  -- ---- one operator

  -- what an operator that joins no conditions did to its operands, and what was noted of them
  pub record IsOperated (first : Expr) (link : Link) (notes : List Noted) (s t : effect.State) (r : Value) : Type 0 where
    pub left : Value
    pub behind_left : effect.State
    pub gives_left : value_of first env s ≡ effect.Gives left behind_left
    pub right : Value
    pub behind_right : effect.State
    pub gives_right : value_of link.operand env (entered link.number behind_left) ≡ effect.Gives right behind_right
    pub operated : meaning.operated_both link.operation left right behind_right ≡ effect.Gives r t
    pub note : Noted
    pub notes_are : notes ≡ note ∷ []
    pub left_lies : IsKnown note.left left
    pub right_lies : IsKnown note.right right

  only-note : (notes : List Noted) (one : Operands) → AreNoted notes (one ∷ []) → (note : Noted) × (notes ≡ note ∷ []) × IsKnown note.left one.left
      × IsKnown note.right one.right
  only-note [] one told = absurd told
  only-note (note ∷ []) one told = (note, refl, told.0, told.1)
  only-note (note ∷ next ∷ notes) one told = absurd told.2

  -- the values of its operands
  one-traced : (e : Expr) (link : Link) (s u x : effect.State) (a w r : Value) (t : effect.State) → value_of e env s ≡ effect.Gives a u
      → value_of link.operand env (entered link.number u) ≡ effect.Gives w x → link_of link env a u ≡ effect.Gives r t
      → chain_values false (traced_of e) (traced_link link ∷ []) env s ≡ record { left = a; right = w } ∷ []
  one-traced e link s u x a w r t first second third =
      let one : (traced_of e).evaluation env s ≡ effect.Gives a u =
      ap (λ (evaluation : Evaluation). evaluation env s) (traced-evaluates e) ∙ first in
      let two : (traced_of link.operand).evaluation env (entered link.number u) ≡ effect.Gives w x =
      ap (λ (evaluation : Evaluation). evaluation env (entered link.number u)) (traced-evaluates link.operand) ∙ second in
      let three : (traced_link link).combination env a u ≡ effect.Gives r t =
      ap (λ (combination : meaning.Combination). combination env a u) (traced-combines link) ∙ third in
      ap (λ (reply : effect.Reply Value). traced_behind reply (λ v t. turns_values false (traced_link link ∷ []) v env t)) one
      ∙ ap₂ (λ (values : Tracing) (reply : effect.Reply Value). values env u ++ traced_behind reply (λ v t. [])) (link-traces link a) three
      ∙ ap (λ (reply : effect.Reply Value). traced_behind reply (λ v t. record { left = a; right = v } ∷ []) ++ []) two

  -- a chain of one operator: one note tells of both operands
  pub one-noted : (first : Box Expr Global) (rest : Vec Link Global) (link : Link) (notes : List Noted) (s t : effect.State) (r : Value)
      → rest.items ≡ link ∷ [] → joins link.operation ≡ false → value_of (expr.Chain first rest) env s ≡ effect.Gives r t
      → AreNoted notes ((traced_of (expr.Chain first rest)).values env s) → IsOperated first.value link notes s t r
  one-noted first rest link notes s t r one apart gives told =
      let whole : effect.◌>>=◌ (value_of first.value env) (meaning.in_turn (map link_of rest.items) env) s ≡ effect.Gives r t =
      ap (λ (evaluation : Evaluation). evaluation env s) (sym (chain-evaluates first rest)) ∙ gives in
      let own : effect.and_then (value_of first.value env s) (meaning.in_turn (link_of link ∷ []) env) ≡ effect.Gives r t =
      ap (λ (links : List Link). effect.and_then (value_of first.value env s) (meaning.in_turn (map link_of links) env)) (sym one) ∙ whole in
      let left = then-gives (value_of first.value env s) (meaning.in_turn (link_of link ∷ []) env) r t own in
      let step = then-gives (link_of link env left.1 left.0) (meaning.in_turn [] env) r t left.3 in
      let ends : ◌≡◌ {A = effect.Reply Value} (effect.Gives step.1 step.0) (effect.Gives r t) = step.3 in
      let done : link_of link env left.1 left.0 ≡ effect.Gives r t = step.2 ∙ ends in
      let from = entered link.number left.0 in
      let operates = meaning.operated_both link.operation left.1 in
      let combined : effect.and_then (value_of link.operand env from) operates ≡ effect.Gives r t =
      ap (λ (combination : meaning.Combination). combination env left.1 left.0) (sym (link-evaluates link)) ∙ done in
      let right = then-gives (value_of link.operand env from) operates r t combined in
      let both : Operands = record { left = left.1; right = right.1 } in
      let values : (traced_of (expr.Chain first rest)).values env s ≡ both ∷ [] =
      ap (λ (tracing : Tracing). tracing env s) (chain-traces first rest)
      ∙ ap (λ (links : List Link). chain_values (list_all (λ (l : Link). joins l.operation) links) (traced_of first.value) (map traced_link links) env s) one
      ∙ ap (λ (inside : Bool). chain_values (inside && true) (traced_of first.value) (traced_link link ∷ []) env s) apart
      ∙ one-traced first.value link s left.0 right.0 left.1 right.1 r t left.2 right.2 done in
      let note = only-note notes both (subst (AreNoted notes) values told) in
      record {
        left = left.1;
        behind_left = left.0;
        gives_left = left.2;
        right = right.1;
        behind_right = right.0;
        gives_right = right.2;
        operated = right.3;
        note = note.0;
        notes_are = note.1;
        left_lies = note.2;
        right_lies = note.3;
      }
