-- What a name denotes (ISO 7185:1990, 6.2.2): the innermost region that defines it decides, and there a use before
-- the definition has no meaning. A region opens with the names that its block defines, and then the definitions are
-- passed one after another. It says nothing of how names are spelled; here they are in small letters.
use Rattle.std.specs.Prelude.{ℕ, Bool, true, false, List, [], ◌∷◌, Option, Some, None, IsSome, Result, Ok, Err, Vec}
use Rattle.std.specs.Prelude.{if◌then◌else◌, nat_eq, map, fold}
use Rattle.std.specs.Cmp.Lexicographic.{pointwise}
use Rattle.std.specs.Map.{lookup}
use Rattle.std.specs.HashMap.{HashMap}
use Rattle.std.specs.declared.alloc.Global.{Global}
use Rattle.scopes.specs.declared.denotation.Denotation.{Denotation}
use Rattle.scopes.specs.declared.fault.ScopeFault.{ScopeFault}
use Rattle.scopes.specs.declared.fault.ScopeFault.TheVariants as fault

-- a region: the names that its block defines, each with what it denotes, once its definition was passed
abbrev pub Region : Type 0
Region = List (List ℕ × Option Denotation)

-- the innermost region, and those round it
abbrev pub innermost : List Region → Region
innermost [] = []
innermost (region ∷ outer) = region

abbrev pub outer : List Region → List Region
outer [] = []
outer (region ∷ regions) = regions

-- what a region says of a name
abbrev pub said : Region → List ℕ → Option (Option Denotation)
said region name = lookup (pointwise nat_eq name) region

-- what a region says of a name, where the regions round it say `outer`
abbrev pub decided : Option (Option Denotation) → Result Denotation ScopeFault → Result Denotation ScopeFault
decided None outer = outer
decided (Some None) outer = Err fault.UsedBeforeDeclared
decided (Some (Some denotation)) outer = Ok denotation

-- what a name denotes in regions, the innermost first
abbrev pub found : List Region → List ℕ → Result Denotation ScopeFault
found [] name = Err fault.NotDeclared
found (region ∷ outer) name = decided (said region name) (found outer name)

-- a region lists a name
abbrev pub is_listed : Option (Option Denotation) → Bool
is_listed None = false
is_listed (Some says) = true

-- a region that says this of a name: where it lists the name already, at its place, and else behind all others
abbrev pub put : Region → List ℕ → Option Denotation → Region
put [] name says = (name, says) ∷ []
put (entry ∷ entries) name says =
    if pointwise nat_eq name entry.0 then (entry.0, says) ∷ entries else entry ∷ put entries name says

-- the region of a block that defines these names: all of them in order, each once, and none defined yet
abbrev pub opened : List (List ℕ) → Region
opened = fold (λ region name. put region name None) []

-- a region that lists a name, which isn't defined yet if it is new
abbrev pub listing : Region → List ℕ → Region
listing region name = if is_listed (said region name) then region else put region name None

-- the region of a block that defines these names beside those of its parameters, which are defined
abbrev pub opened_beside : Region → List (List ℕ) → Region
opened_beside parameters names = fold listing parameters names

-- a region whose names are all defined
abbrev pub opened_with : List (List ℕ × Denotation) → Region
opened_with = fold (λ region definition. put region definition.0 (Some definition.1)) []

-- a definition of the name was passed
abbrev pub is_defined : Option (Option Denotation) → Bool
is_defined None = false
is_defined (Some None) = false
is_defined (Some (Some denotation)) = true

-- the regions once the innermost has passed the definition of a name, which may come once
abbrev pub define : List ℕ → Denotation → List Region → Result (List Region) ScopeFault
define name denotation [] = Err fault.NotDeclared
define name denotation (region ∷ outer) =
    if is_defined (said region name) then Err fault.DeclaredTwice else Ok (put region name (Some denotation) ∷ outer)

-- a region is open, and the innermost one lists the name
abbrev pub Knows : List Region → List ℕ → Type 0
Knows [] name = ⊥
Knows (region ∷ outer) name = IsSome (said region name)

-- the region that a table is
abbrev pub region_of : {S : Type 0} → HashMap (Vec ℕ Global) (Option Denotation) S → Region
region_of table = map (λ entry. (entry.0.items, entry.1)) table.entries
