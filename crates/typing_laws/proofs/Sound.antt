-- What holds of all that names denote: a constant is a whole number, a variable is one of the block or of one round it, of
-- the type that it has there, a routine is one that such a block declares, and a type stands in the table.
use Rattle.std.proofs.Common.{◌≡◌, ℕ, ◌<◌, Bool, true, false, cond, nat_eq, List, [], ◌∷◌, ◌++◌, Option, Some, None, Ok, Err, if◌then◌else◌, fold, refl, ap}
use Rattle.std.proofs.Common.{sym}
use Rattle.std.proofs.Common.{subst, arith, length, slice_get, ◌||◌, ◌∙◌}
use Rattle.std.proofs.lemmas.Bool.{eq-eqb, eqb-true}
use Rattle.std.specs.Cmp.Lexicographic.{pointwise}
use Rattle.types.specs.Forms.{Form}
use Rattle.types.specs.Types.{is_string}
use Rattle.types.specs.declared.form.TypeId.{TypeId}
use Rattle.scopes.specs.Scopes.{Region, said, decided, found, put, opened, listing, is_listed, opened_beside, is_defined, define}
use Rattle.scopes.specs.declared.fault.ScopeFault.TheVariants.{DeclaredTwice}
use Rattle.scopes.specs.declared.denotation.Denotation.{Denotation}
use Rattle.scopes.specs.declared.denotation.Denotation.TheVariants as denotes
use Rattle.types.specs.Types.{field_at}
use Rattle.typed_tree.specs.declared.tree.Variable.{Variable}
use Rattle.typed_tree.specs.Accesses.{field_type, lying}
use Rattle.typed_tree.specs.WellFormed.{is_whole, is_one_of, of_one, declarer}
use Rattle.typing.specs.Names.{required_region}
use Rattle.typing.specs.Passing.{OpenRecord}
use Rattle.typing_laws.proofs.Reached.{IsLonger, Here, Head, Reached, IsFurther, is_round_here, get_longer}
use Rattle.typing_laws.proofs.Tables.{field_of_longer, is_string_longer, lying_longer, stands_longer}

-- ---- what holds of each thing that is denoted

module _ (Holds : Denotation → Type 0) where
  abbrev pub Says : Option Denotation → Type 0
  Says None = Unit {0}
  Says (Some denotation) = Holds denotation

  abbrev pub HoldsOfRegion : Region → Type 0
  HoldsOfRegion [] = Unit {0}
  HoldsOfRegion (entry ∷ entries) = Says entry.1 × HoldsOfRegion entries

  abbrev pub HoldsOfAll : List Region → Type 0
  HoldsOfAll [] = Unit {0}
  HoldsOfAll (region ∷ outer) = HoldsOfRegion region × HoldsOfAll outer

  -- ---- what is found

  said_holds : (region : Region) (name : List ℕ) (says : Option Denotation) → HoldsOfRegion region → said region name ≡ Some says → Says says
  said_holds [] name says all is = absurd cc
  said_holds (entry ∷ entries) name says all is = by (pointwise nat_eq name entry.0) (λ h. said_holds entries name says all.1 h) is
    where
      by : (here : Bool) → (said entries name ≡ Some says → Says says) → cond here (Some entry.1) (said entries name) ≡ Some says → Says says
      by true more h = let same : entry.1 ≡ says = cc in subst Says same all.0
      by false more h = more h

  pub found_holds : (regions : List Region) (name : List ℕ) (denotation : Denotation) → HoldsOfAll regions → found regions name ≡ Ok denotation
      → Holds denotation
  found_holds [] name denotation all is = absurd cc
  found_holds (region ∷ outer) name denotation all is = by (said region name) refl (λ h. found_holds outer name denotation all.1 h) is
    where
      by : (says : Option (Option Denotation)) → said region name ≡ says → (found outer name ≡ Ok denotation → Holds denotation)
          → decided says (found outer name) ≡ Ok denotation → Holds denotation
      by None h more there = more there
      by (Some None) h more there = absurd cc
      by (Some (Some d)) h more there = let same : d ≡ denotation = cc in subst Holds same (said_holds region name (Some d) all.0 h)

  -- ---- definitions

  pub put_holds : (region : Region) (name : List ℕ) (says : Option Denotation) → HoldsOfRegion region → Says says → HoldsOfRegion (put region name says)
  put_holds [] name says all one = (one, tt)
  put_holds (entry ∷ entries) name says all one = by (pointwise nat_eq name entry.0) (put_holds entries name says all.1 one)
    where
      by : (here : Bool) → HoldsOfRegion (put entries name says)
          → HoldsOfRegion (if here then (entry.0, says) ∷ entries else entry ∷ put entries name says)
      by true more = (one, all.1)
      by false more = (all.0, more)

  -- names that are not defined yet
  pub opened_holds : (names : List (List ℕ)) → HoldsOfRegion (opened names)
  opened_holds names = from names [] tt
    where
      from : (names : List (List ℕ)) (region : Region) → HoldsOfRegion region
          → HoldsOfRegion (fold (λ (region : Region) (name : List ℕ). put region name None) region names)
      from [] region all = all
      from (name ∷ names) region all = from names (put region name None) (put_holds region name None all tt)

  -- the same beside parameters
  pub beside_holds : (parameters : Region) (names : List (List ℕ)) → HoldsOfRegion parameters → HoldsOfRegion (opened_beside parameters names)
  beside_holds region [] all = all
  beside_holds region (name ∷ names) all = beside_holds (listing region name) names (by (is_listed (said region name)))
    where
      by : (test : Bool) → HoldsOfRegion (if test then region else put region name None)
      by true = all
      by false = put_holds region name None all tt

  pub define_holds : (name : List ℕ) (denotation : Denotation) (regions new : List Region) → Holds denotation → HoldsOfAll regions
      → define name denotation regions ≡ Ok new → HoldsOfAll new
  define_holds name denotation [] new one all is = absurd cc
  define_holds name denotation (region ∷ outer) new one all is = by (is_defined (said region name)) is
    where
      by : (test : Bool) → (if test then Err DeclaredTwice else Ok (put region name (Some denotation) ∷ outer)) ≡ Ok new → HoldsOfAll new
      by true h = absurd cc
      by false h =
          let same : put region name (Some denotation) ∷ outer ≡ new = cc in
          subst HoldsOfAll same (put_holds region name (Some denotation) all.0 one, all.1)

-- ---- what follows from what holds

module _ (Holds More : Denotation → Type 0) (more : (denotation : Denotation) → Holds denotation → More denotation) where
  says_more : (says : Option Denotation) → Says Holds says → Says More says
  says_more None all = tt
  says_more (Some denotation) one = more denotation one

  pub region_more : (region : Region) → HoldsOfRegion Holds region → HoldsOfRegion More region
  region_more [] all = tt
  region_more (entry ∷ entries) all = (says_more entry.1 all.0, region_more entries all.1)

  pub all_more : (regions : List Region) → HoldsOfAll Holds regions → HoldsOfAll More regions
  all_more [] all = tt
  all_more (region ∷ outer) all = (region_more region all.0, all_more outer all.1)

-- ---- whole numbers, variables, routines and types

-- a variable of a block or of one round it, of this type, which stands in the table
pub record IsVariable (here : Here) (variables : List Variable) (types : List Form) (root : ℕ) (type_id : TypeId) : Type 0 where
  pub variable : Variable
  pub is_there : slice_get variables root ≡ Some variable
  pub is_visible : is_round_here here variable.block ≡ true
  pub of_type : variable.type_id ≡ type_id
  pub stands : type_id.index < length types

-- a record that lies in a variable of a block or of one round it
pub record IsRecord (here : Here) (variables : List Variable) (types : List Form) (opened : OpenRecord) : Type 0 where
  pub variable : Variable
  pub is_there : slice_get variables opened.root ≡ Some variable
  pub is_visible : is_round_here here variable.block ≡ true
  pub stands : variable.type_id.index < length types
  pub lies : lying types opened.steps variable.type_id ≡ Some opened.type_id
  pub ends : opened.type_id.index < length types

-- a field of the record that is open in a slot
pub record IsField (here : Here) (variables : List Variable) (types : List Form) (slot position offset : ℕ) (type_id : TypeId) : Type 0 where
  pub opened : OpenRecord
  pub is_open : slice_get here.records slot ≡ Some opened
  pub is_record : IsRecord here variables types opened
  pub leads : field_type offset (field_at types opened.type_id position) ≡ Some type_id
  pub stands : type_id.index < length types

-- a routine that a block or one round it declares
pub record IsRoutine (here : Here) (heads : List Head) (block : ℕ) (is_function : Bool) : Type 0 where
  pub head : Head
  pub is_there : slice_get heads block ≡ Some head
  pub is_visible : of_one (is_round_here here) (declarer head.around) ≡ true
  pub of_kind : head.is_function ≡ is_function

-- with these variables, types and heads of blocks
abbrev pub IsSound : Here → List Variable → List Form → List Head → Denotation → Type 0
IsSound here variables types heads (denotes.Constant value type_id) = is_whole value ≡ true
IsSound here variables types heads (denotes.Text number type_id) = is_string types type_id ≡ true
IsSound here variables types heads (denotes.Variable root type_id) = IsVariable here variables types root type_id
IsSound here variables types heads (denotes.Field slot position offset type_id) = IsField here variables types slot position offset type_id
IsSound here variables types heads (denotes.Procedure procedure) = Unit {0}
IsSound here variables types heads (denotes.Function function) = Unit {0}
IsSound here variables types heads (denotes.Routine block is_function) = IsRoutine here heads block is_function
IsSound here variables types heads (denotes.TypeName type_id) = type_id.index < length types
IsSound here variables types heads (denotes.InputFunction function) = Unit {0}
IsSound here variables types heads (denotes.File file) = Unit {0}

abbrev pub AreSound : Here → List Variable → List Form → List Head → List Region → Type 0
AreSound here variables types heads = HoldsOfAll (IsSound here variables types heads)

abbrev pub IsSoundRegion : Here → List Variable → List Form → List Head → Region → Type 0
IsSoundRegion here variables types heads = HoldsOfRegion (IsSound here variables types heads)

pub required_sound : (here : Here) (variables : List Variable) (types : List Form) (heads : List Head) → 2 < length types
    → IsSoundRegion here variables types heads required_region
unfolding required_region
required_sound here variables types heads there =
    let integers : 0 < length types = omega (arith, there) in
    let booleans : 1 < length types = omega (arith, there) in
    (integers, (booleans, (there, (refl, (refl, (refl, (tt, (tt, (tt, (tt, (tt, (tt, (tt, (tt, (tt, (tt, (tt, (tt, (tt, tt)))))))))))))))))))

-- ---- in blocks inside

-- what stands round the one, stands round the other, and what is open there is open here
pub record IsInside (outer inner : Here) : Type 0 where
  pub keeps : (block : ℕ) → is_round_here outer block ≡ true → is_round_here inner block ≡ true
  pub opened : (slot : ℕ) (opened : OpenRecord) → slice_get outer.records slot ≡ Some opened → slice_get inner.records slot ≡ Some opened

pub inside_itself : {here : Here} → IsInside here here
inside_itself = record { keeps = λ block is. is; opened = λ slot opened is. is }

pub among_more : (blocks : List ℕ) (last block : ℕ) → is_one_of blocks block ≡ true → is_one_of (blocks ++ last ∷ []) block ≡ true
among_more [] last block is = absurd cc
among_more (one ∷ blocks) last block is = by (nat_eq one block) (among_more blocks last block) is
  where
    by : (test : Bool) → (is_one_of blocks block ≡ true → is_one_of (blocks ++ last ∷ []) block ≡ true) → (test || is_one_of blocks block) ≡ true
        → (test || is_one_of (blocks ++ last ∷ []) block) ≡ true
    by true more h = refl
    by false more h = more h

pub among_last : (blocks : List ℕ) (block : ℕ) → is_one_of (blocks ++ block ∷ []) block ≡ true
among_last [] block = ap (λ b. b || false) (eq-eqb block block refl)
among_last (one ∷ blocks) block = by (nat_eq one block) (among_last blocks block)
  where
    by : (test : Bool) → is_one_of (blocks ++ block ∷ []) block ≡ true → (test || is_one_of (blocks ++ block ∷ []) block) ≡ true
    by true h = refl
    by false h = h

pub or_right : (a b : Bool) → b ≡ true → (a || b) ≡ true
or_right true b is = refl
or_right false b is = is

-- a block of a number that another declares, where no record is open
abbrev pub declared_in : Here → ℕ → Here
declared_in here number = record { block = number; around = here.around ++ here.block ∷ []; records = [] }

-- it stands round what it is declared in
pub round_inside : (here : Here) (number block : ℕ) → is_round_here here block ≡ true → is_round_here (declared_in here number) block ≡ true
round_inside here number block is = or_right (nat_eq block number) _ (by block (nat_eq block here.block) refl is)
  where
    by : (block : ℕ) (test : Bool) → nat_eq block here.block ≡ test → (test || is_one_of here.around block) ≡ true
        → is_one_of (here.around ++ here.block ∷ []) block ≡ true
    by block true same h =
        let at : block ≡ here.block = eqb-true block here.block same in
        subst (λ b. is_one_of (here.around ++ b ∷ []) block ≡ true) at (among_last here.around block)
    by block false same h = among_more here.around here.block block h

-- a routine's block is inside its declarer's
pub inside_routine : (here : Here) (number : ℕ) → here.records ≡ [] → IsInside here (declared_in here number)
inside_routine here number none = record {
  keeps = round_inside here number;
  opened = λ slot opened is. ap (λ (all : List OpenRecord). slice_get all slot) (sym none) ∙ is;
}

-- where more has come
pub variable_later : (here : Here) (now next : Reached) (root : ℕ) (type_id : TypeId) → IsFurther now next
    → IsVariable here now.variables now.types root type_id → IsVariable here next.variables next.types root type_id
variable_later here now next root type_id more v = record {
  variable = v.variable;
  is_there = get_longer more.variables root v.variable v.is_there;
  is_visible = v.is_visible;
  of_type = v.of_type;
  stands = stands_longer more.types type_id v.stands;
}

pub routine_longer : (here : Here) (old new : List Head) (block : ℕ) (is_function : Bool) → IsLonger old new → IsRoutine here old block is_function
    → IsRoutine here new block is_function
routine_longer here old new block is_function longer routine = record {
  head = routine.head;
  is_there = get_longer longer block routine.head routine.is_there;
  is_visible = routine.is_visible;
  of_kind = routine.of_kind;
}

-- ---- with more variables, types and heads

module _ {outer inner : Here} (inside : IsInside outer inner) {old_variables new_variables : List Variable} {old new : List Form}
    {old_heads new_heads : List Head} (variables : IsLonger old_variables new_variables) (types : IsLonger old new)
    (heads : IsLonger old_heads new_heads) where
  pub variable_more : (root : ℕ) (type_id : TypeId) → IsVariable outer old_variables old root type_id
      → IsVariable inner new_variables new root type_id
  variable_more root type_id sound = record {
    variable = sound.variable;
    is_there = get_longer variables root sound.variable sound.is_there;
    is_visible = inside.keeps sound.variable.block sound.is_visible;
    of_type = sound.of_type;
    stands = stands_longer types type_id sound.stands;
  }

  pub record_more : (opened : OpenRecord) → IsRecord outer old_variables old opened → IsRecord inner new_variables new opened
  record_more opened r = record {
    variable = r.variable;
    is_there = get_longer variables opened.root r.variable r.is_there;
    is_visible = inside.keeps r.variable.block r.is_visible;
    stands = stands_longer types r.variable.type_id r.stands;
    lies = lying_longer types opened.steps r.variable.type_id r.stands ∙ r.lies;
    ends = stands_longer types opened.type_id r.ends;
  }

  of_one_more : (found : Option ℕ) → of_one (is_round_here outer) found ≡ true → of_one (is_round_here inner) found ≡ true
  of_one_more None is = absurd cc
  of_one_more (Some block) is = inside.keeps block is

  pub sound_more : (denotation : Denotation) → IsSound outer old_variables old old_heads denotation
      → IsSound inner new_variables new new_heads denotation
  sound_more (denotes.Constant value type_id) sound = sound
  sound_more (denotes.Text number type_id) sound = is_string_longer types type_id sound
  sound_more (denotes.Variable root type_id) sound = variable_more root type_id sound
  sound_more (denotes.Field slot position offset type_id) sound = record {
    opened = sound.opened;
    is_open = inside.opened slot sound.opened sound.is_open;
    is_record = record_more sound.opened sound.is_record;
    leads = ap (field_type offset) (field_of_longer types sound.opened.type_id sound.is_record.ends position) ∙ sound.leads;
    stands = stands_longer types type_id sound.stands;
  }
  sound_more (denotes.Procedure procedure) sound = tt
  sound_more (denotes.Function function) sound = tt
  sound_more (denotes.Routine block is_function) sound = record {
    head = sound.head;
    is_there = get_longer heads block sound.head sound.is_there;
    is_visible = of_one_more (declarer sound.head.around) sound.is_visible;
    of_kind = sound.of_kind;
  }
  sound_more (denotes.TypeName type_id) sound = stands_longer types type_id sound
  sound_more (denotes.InputFunction function) sound = tt
  sound_more (denotes.File file) sound = tt

  pub region_later : (region : Region) → IsSoundRegion outer old_variables old old_heads region
      → IsSoundRegion inner new_variables new new_heads region
  region_later = region_more (IsSound outer old_variables old old_heads) (IsSound inner new_variables new new_heads) sound_more

  pub regions_later : (regions : List Region) → AreSound outer old_variables old old_heads regions → AreSound inner new_variables new new_heads regions
  regions_later = all_more (IsSound outer old_variables old old_heads) (IsSound inner new_variables new new_heads) sound_more
