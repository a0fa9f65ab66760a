-- The kinds of errors (ISO 7185:1990, 3.1): their numbers and the names that the programs print.
-- It says nothing of when an error comes.
use Rattle.std.specs.Prelude.{ℕ, List, Option, Some, None, if◌then◌else◌, ◌==◌, codes}
use Rattle.typed_tree.specs.declared.site.SiteKind.{SiteKind}
use Rattle.typed_tree.specs.declared.site.SiteKind.TheVariants.{Index, Subrange, UndefinedVariable, UndefinedResult}
use Rattle.typed_tree.specs.declared.site.SiteKind.TheVariants.{DivisionByZero, ModByZeroOrLess, Case, Chr, Succ, Pred}
use Rattle.typed_tree.specs.declared.site.SiteKind.TheVariants.{Overflow, Width, SetMember}

-- the number of a kind, from 1 to 13
abbrev pub code_of : SiteKind → ℕ
code_of Index = 1
code_of Subrange = 2
code_of UndefinedVariable = 3
code_of UndefinedResult = 4
code_of DivisionByZero = 5
code_of ModByZeroOrLess = 6
code_of Case = 7
code_of Chr = 8
code_of Succ = 9
code_of Pred = 10
code_of Overflow = 11
code_of Width = 12
code_of SetMember = 13

-- the kind of a number
abbrev pub kind_of : ℕ → Option SiteKind
kind_of n =
    if n == 1 then Some Index
    else (if n == 2 then Some Subrange
    else (if n == 3 then Some UndefinedVariable
    else (if n == 4 then Some UndefinedResult
    else (if n == 5 then Some DivisionByZero
    else (if n == 6 then Some ModByZeroOrLess
    else (if n == 7 then Some Case
    else (if n == 8 then Some Chr
    else (if n == 9 then Some Succ
    else (if n == 10 then Some Pred
    else (if n == 11 then Some Overflow
    else (if n == 12 then Some Width
    else (if n == 13 then Some SetMember
    else None))))))))))))

-- the name of a kind
abbrev pub name_of : SiteKind → List ℕ
name_of Index = codes "index"
name_of Subrange = codes "subrange"
name_of UndefinedVariable = codes "undefined variable"
name_of UndefinedResult = codes "undefined result"
name_of DivisionByZero = codes "division by zero"
name_of ModByZeroOrLess = codes "mod by zero or less"
name_of Case = codes "case"
name_of Chr = codes "chr"
name_of Succ = codes "succ"
name_of Pred = codes "pred"
name_of Overflow = codes "overflow"
name_of Width = codes "width"
name_of SetMember = codes "set member"
