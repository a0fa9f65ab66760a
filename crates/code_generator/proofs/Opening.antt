-- A record of a with is open: its address lies above what was held, where it stays, as all that was held does, until it is
-- given up.
use Rattle.code_generator.proofs.Words.{◌≡◌, ℕ, zero, suc, ◌+◌, ◌-◌, ◌<◌, ◌≤◌, ⊎_elim, List, [], ◌∷◌, ◌++◌, length, map, take, Option, Some, None, refl, sym}
use Rattle.code_generator.proofs.Words.{ap, ◌∙◌, subst, arith, append-nil, length-append, slice_get, pos, cases_lt, same_Some, Bool, true}
use Rattle.code_generator.proofs.Words.{length-map, slice_get_within, TypeId, Variable, Place, Action, Gives, Reply, Ending, Cell, Number, Home, Undefined}
use Rattle.code_generator.proofs.Words.{State, Scope, links_to, variable_home, inl, inr}
use Rattle.typed_tree.specs.Records.{OpenRecord}
use Rattle.typed_tree.specs.WellFormed.{is_visible}
use Rattle.meaning.specs.declared.outcome.Ending.TheVariants as ending
use Rattle.meaning.specs.Effect as effect
use Rattle.meaning.specs.Kinds.{type_on}
use Rattle.code_scheme.specs.Scopes.{held_offset, home_or_none, record_home, with_record}
use Rattle.code_generator.proofs.Accesses.{PartAt}
use Rattle.code_generator.proofs.Alike.{Fixed, IsApart, Keeps, alike_above, leads_above}
use Rattle.code_generator.proofs.Held.{held_at}
use Rattle.code_generator.proofs.Lists.{get_take, slice_before, slice_behind, slice_get-front, slice_get_seam, slice_map}
use Rattle.code_generator.proofs.Parts.{part_later}
use Rattle.code_generator.proofs.Reach.{Comes, comes_less, comes_on}
use Rattle.code_generator.proofs.Returning.{take_kept}
use Rattle.code_generator.proofs.Running.{Arrives, Executes, kept_on}
use Rattle.code_generator.proofs.Setting.{AllHeld, Based, ByAddress, Direct, Ends, Reaches, Setting, Shown, ShownRecord, Way, limit_far, on, outline}
use Rattle.code_generator.proofs.Starting.{keeps_join, keeps_some}

module _ (g : Setting) (held : List Cell) (high : AllHeld g held) (room : g.below + length held + 1 ≤ g.limit) (p : Place) (id : TypeId) (d : ℕ)
    (part : PartAt g p id d) (one : OpenRecord) (type_is : type_on (outline g) one.root one.steps ≡ Some id) where
  -- what is held, and the address above it
  abbrev pub above : List Cell
  above = held ++ Number (pos d) ∷ []

  above_long : length above ≡ length held + 1
  above_long = length-append held (Number (pos d) ∷ [])

  abbrev new_below : ℕ
  new_below = g.below + length above

  abbrev new_fixed : Fixed
  new_fixed = g.fixed ++ map (λ c. Some c) above

  abbrev new_scope : Scope
  new_scope = with_record g.scope

  pub outer : (i : ℕ) (c : Option Cell) → slice_get g.fixed i ≡ Some c → slice_get new_fixed i ≡ Some c
  outer i c at = slice_get-front g.fixed (map (λ c. Some c) above) i c at

  pub new_apart : IsApart g.world new_fixed
  new_apart = record { scalars = g.apart.scalars; free = λ q c l. outer c None (g.apart.free q c l) }

  reaches_more : (q : Place) (v : Variable) (cell : ℕ) (refers : Bool) (way : Way) → Reaches g.tree g.world g.fixed g.below q v cell refers way
      → Reaches g.tree g.world new_fixed new_below q v cell refers way
  reaches_more q v cell refers Direct r = (r.0, part_later (outline g) g.world g.below new_below q v.type_id cell (omega arith) r.1)
  reaches_more q v cell refers (ByAddress address) r =
      (r.0, outer cell (Some (Number (pos address))) r.1, part_later (outline g) g.world g.below new_below q v.type_id address (omega arith) r.2)

  pub new_shows : (root : ℕ) (v : Variable) → slice_get g.tree.variables.items root ≡ Some v → is_visible (outline g) g.number root ≡ true
      → Shown g.tree g.world new_fixed new_below g.frame new_scope g.environment root v
  new_shows root v at seen =
      let x = g.shows root v at seen in
      record {
        place = x.place;
        place_is = x.place_is;
        owner = x.owner;
        leads = leads_above g.fixed (map (λ c. Some c) above) (links_to g.scope (variable_home g.scope root).level) g.frame x.owner x.leads;
        way = x.way;
        reaches = reaches_more x.place v (x.owner + (variable_home g.scope root).start) (variable_home g.scope root).refers x.way x.reaches;
      }

  -- the address lies where code looks for it
  abbrev its_home : Home
  its_home = record { level = g.scope.level; start = held_offset g.scope 0; refers = true }

  home_last : (slot : ℕ) → slot ≡ length g.scope.records → record_home new_scope slot ≡ its_home
  home_last slot is = ap (λ n. home_or_none (slice_get new_scope.records n)) is ∙ ap home_or_none (slice_get_seam g.scope.records its_home [])

  home_before : (slot : ℕ) → slot < length g.scope.records → record_home g.scope slot ≡ record_home new_scope slot
  home_before slot less = ap home_or_none (sym (slice_before g.scope.records (its_home ∷ []) slot less))

  address_there : slice_get new_fixed (g.frame + held_offset g.scope 0) ≡ Some (Some (Number (pos d)))
  address_there =
      let same = g.fixed_is in
      let at = held_at g held 0 high (omega arith) in
      let n : g.frame + held_offset g.scope 0 ≡ length g.fixed + length held = omega (arith, at, same) in
      slice_behind g.fixed (map (λ c. Some c) above) (length held) (g.frame + held_offset g.scope 0) n
      ∙ slice_map (λ c. Some c) above (length held) (Number (pos d)) (slice_get_seam held (Number (pos d)) [])

  abbrev NewOpen : ℕ → OpenRecord → Type 0
  NewOpen slot x = ShownRecord g.tree g.world new_fixed new_below g.frame new_scope (g.records ++ Some p ∷ []) slot x

  opens_last : (slot : ℕ) (x : OpenRecord) → slot ≡ length g.opened → one ≡ x → NewOpen slot x
  opens_last slot x is same =
      let homes = g.as_many_homes in
      let places = g.as_many_records in
      let home : record_home new_scope slot ≡ its_home = home_last slot (omega (arith, is, homes)) in
      let last : slot ≡ length g.records = omega (arith, is, places) in
      subst (NewOpen slot) same (record {
        place = p;
        place_is = ap (slice_get (g.records ++ Some p ∷ [])) last ∙ slice_get_seam g.records (Some p) [];
        id = id;
        type_is = type_is;
        level_is = ap (λ (h : Home). h.level) home;
        refers = ap (λ (h : Home). h.refers) home;
        address = d;
        held = ap (λ (h : Home). slice_get new_fixed (g.frame + h.start)) home ∙ address_there;
        part = part_later (outline g) g.world g.below new_below p id d (omega arith) part;
      })

  opens_before : (slot : ℕ) (x : OpenRecord) → slot < length g.opened → slice_get g.opened slot ≡ Some x → NewOpen slot x
  opens_before slot x less at =
      let old = g.opens slot x at in
      let homes = g.as_many_homes in
      let home = home_before slot (omega (arith, less, homes)) in
      record {
        place = old.place;
        place_is = slice_get-front g.records (Some p ∷ []) slot (Some old.place) old.place_is;
        id = old.id;
        type_is = old.type_is;
        level_is = ap (λ (h : Home). h.level) (sym home) ∙ old.level_is;
        refers = ap (λ (h : Home). h.refers) (sym home) ∙ old.refers;
        address = old.address;
        held = ap (λ (h : Home). slice_get new_fixed (g.frame + h.start)) (sym home)
            ∙ outer (g.frame + (record_home g.scope slot).start) (Some (Number (pos old.address))) old.held;
        part = part_later (outline g) g.world g.below new_below old.place old.id old.address (omega arith) old.part;
      }

  pub new_opens : (slot : ℕ) (x : OpenRecord) → slice_get (g.opened ++ one ∷ []) slot ≡ Some x → NewOpen slot x
  new_opens slot x at =
      ⊎_elim
      (λ (less : slot < length g.opened). opens_before slot x less (sym (slice_before g.opened (one ∷ []) slot less) ∙ at))
      (λ (more : length g.opened ≤ slot).
      let within = slice_get_within (g.opened ++ one ∷ []) slot x at in
      let long = length-append g.opened (one ∷ []) in
      let last : slot ≡ length g.opened = omega (arith, more, within, long) in
      opens_last slot x last (same_Some one x (sym (slice_get_seam g.opened one []) ∙ ap (slice_get (g.opened ++ one ∷ [])) (sym last) ∙ at)))
      (cases_lt slot (length g.opened))

  pub fixed_long : length new_fixed ≡ new_below
  fixed_long = let same = g.fixed_is in omega (arith, same, length-append g.fixed (map (λ c. Some c) above), length-map above (λ c. Some c))

  pub frame_below : g.frame + 4 ≤ new_below
  frame_below = let inside = g.frame_within in omega (arith, inside)

  -- the setting in which it is open
  abbrev pub opening : Setting
  opening = record g {
    fixed = new_fixed;
    apart = new_apart;
    below = new_below;
    fixed_is = fixed_long;
    frame_within = frame_below;
    scope = new_scope;
    homes_are = g.homes_are;
    routines_are = g.routines_are;
    level_is = g.level_is;
    near = g.near;
    shows = new_shows;
    chain = leads_above g.fixed (map (λ c. Some c) above) (links_to g.scope 0) g.frame g.bottom g.chain;
    blank = outer (g.bottom + 2) (Some Undefined) g.blank;
    opened = g.opened ++ one ∷ [];
    records = g.records ++ Some p ∷ [];
    as_many_homes = (let same = g.as_many_homes in omega (arith, same, length-append g.scope.records (its_home ∷ []), length-append g.opened (one ∷ [])));
    as_many_records = (let same = g.as_many_records in omega (arith, same, length-append g.records (Some p ∷ []), length-append g.opened (one ∷ [])));
    opens = new_opens;
  }

  pub all_held : AllHeld opening []
  all_held =
      let far = limit_far g in
      omega (arith, high, far, room, above_long)

  -- it begins
  pub opened_based : (s : effect.State) (base : List Cell) → Based g s base → Based opening s (base ++ above)
  opened_based s base based =
      let full = based.full in
      let same = g.fixed_is in
      record {
        full = omega (arith, full, length-append base above);
        alike = alike_above (outline g) g.world s.store base above based.alike;
        keeps = keeps_join g.fixed (map (λ c. Some c) above) base above (same ∙ sym full) based.keeps (keeps_some above);
        old = based.old;
        fresh = based.fresh;
        lasting = based.lasting;
        deep = based.deep;
      }

  -- and ends: what was held is as it was
  module _ (t : effect.State) (last : List Cell) (after : Based opening t last) where
    abbrev pub restored : List Cell
    restored = take g.below last

    take_all : (xs : List Cell) (n : ℕ) → length xs ≡ n → take n xs ≡ xs
    take_all [] zero e = refl
    take_all [] (suc n) e = refl
    take_all (x ∷ xs) zero e = absurd (omega arith)
    take_all (x ∷ xs) (suc n) e = ap (λ l. x ∷ l) (take_all xs n (omega arith))

    pub split : last ≡ restored ++ above
    split =
        let same = g.fixed_is in
        let full = after.full in
        let whole : length last ≡ length g.fixed + length above = omega (arith, same, full) in
        sym (take_all last (length g.fixed + length above) whole)
        ∙ take_kept g.fixed above [] last
        (subst (λ f. Keeps f last) (ap (λ l. g.fixed ++ l) (sym (append-nil (map (λ c. Some c) above)))) after.keeps)
        (omega (arith, whole))
        ∙ ap (λ n. take n last ++ above) same

    pub restored_based : Based g t restored
    restored_based =
        let same = g.fixed_is in
        let whole = ap length split ∙ length-append restored above in
        let full = after.full in
        record {
          full = omega (arith, whole, full);
          alike = record {
            scalars = λ q c l.
                let low = slice_get_within g.fixed c None (g.apart.free q c l) in
                get_take last g.below c (omega (arith, low, same)) ∙ after.alike.scalars q c l;
            fits = after.alike.fits;
          };
          keeps = record {
            each = λ i cell at.
                let low = slice_get_within g.fixed i (Some cell) at in
                get_take last g.below i (omega (arith, low, same)) ∙ after.keeps.each i cell (outer i (Some cell) at);
          };
          old = after.old;
          fresh = after.fresh;
          lasting = after.lasting;
          deep = after.deep;
        }

  -- an end there is one here
  ends_from_open : (turns : ℕ) (m : State) (why : Ending) (output : List ℕ) → Ends opening turns m why output → Ends g turns m why output
  ends_from_open turns m ending.Finished output e = e
  ends_from_open turns m (ending.Error site) output e = e
  ends_from_open turns m (ending.Input point fault) output e = e
  ends_from_open turns m ending.More output e = e

  -- a piece that runs where it is open, behind which it is given up
  pub executes_from_open : (m : State) (place end : ℕ) (action : Action (Unit {0})) (s : effect.State) → Executes opening m [] place action s
      → ((base : List Cell) (t : effect.State) → Based g t base → Comes g.target 0 (on g (base ++ above) place t) (on g (base ++ held) end t))
      → Executes g m held end action s
  executes_from_open m place end action s (inl x) gives_up = inl x
  executes_from_open m place end action s (inr e) gives_up = inr (by (action s) e)
    where
      by : (r : Reply (Unit {0})) → Arrives opening (kept_on opening [] place) s.turns m r → Arrives g (kept_on g held end) s.turns m r
      by (Gives v t) at =
          let last = at.0.0 in
          let base = restored t last at.0.1 in
          let here : last ++ [] ≡ base ++ above = append-nil last ∙ split t last at.0.1 in (
            (base, restored_based t last at.0.1),
            comes_less g.target (s.turns - t.turns + 0) (s.turns - t.turns + 0 + 0) m _ (omega arith)
                (comes_on g.target (s.turns - t.turns + 0) 0 m _ _
                (subst (λ cells. Comes g.target (s.turns - t.turns + 0) m (on g cells place t)) here at.1)
                (gives_up base t (restored_based t last at.0.1))),
            at.2,
          )
      by (effect.Stops why t) ends = ends_from_open s.turns m why t.output ends
