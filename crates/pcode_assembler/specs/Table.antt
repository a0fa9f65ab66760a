-- The table of the text's instructions: the word and the operands of each, as they are spelled and as they are read.
-- It does not say what an instruction does, nor what its operands name.
use Rattle.std.specs.Prelude.{ℕ, ℤ, pos, List, [], ◌∷◌, Option, Some, None, codes, decimal, find, unwrap_or}
use Rattle.std.specs.Fmt.{signed_decimal}
use Rattle.std.specs.Str.{bytes_eq}
use Rattle.std.specs.Option.{option_map, option_or}
use Rattle.text_lines.specs.Numerals.{natural}
use Rattle.pcode_assembler.specs.declared.instr.Instr.{Instr}
use Rattle.pcode_assembler.specs.declared.instr.Instr.TheVariants as instr
use Rattle.pcode_assembler.specs.declared.table.Shape.{Shape}
use Rattle.pcode_assembler.specs.declared.table.Shape.TheVariants as shape
use Rattle.pcode_assembler.specs.Words.{both, members, number, set_digits}

-- ---- words

-- the word of an instruction that moves cells
abbrev pub cell_word : Instr → Option (List ℕ)
cell_word (instr.LoadConstant value) = Some (codes "ldc")
cell_word (instr.LoadSet members) = Some (codes "lds")
cell_word (instr.LoadAddress level offset) = Some (codes "lda")
cell_word (instr.Load level offset) = Some (codes "lod")
cell_word (instr.Store level offset) = Some (codes "str")
cell_word (instr.LoadIndirect offset) = Some (codes "ind")
cell_word instr.StoreIndirect = Some (codes "sto")
cell_word (instr.LoadMany length) = Some (codes "ldm")
cell_word (instr.StoreMany length) = Some (codes "stm")
cell_word (instr.Increase offset) = Some (codes "inc")
cell_word (instr.IndexAddress low size) = Some (codes "ixa")
cell_word _ = None

-- the word of an instruction that is over numbers
abbrev pub number_word : Instr → Option (List ℕ)
number_word instr.Add = Some (codes "adi")
number_word instr.Subtract = Some (codes "sbi")
number_word instr.Multiply = Some (codes "mpi")
number_word instr.Divide = Some (codes "dvi")
number_word instr.Modulo = Some (codes "mod")
number_word instr.Negate = Some (codes "ngi")
number_word instr.Absolute = Some (codes "abi")
number_word instr.Square = Some (codes "sqi")
number_word instr.Odd = Some (codes "odd")
number_word instr.Not = Some (codes "not")
number_word instr.And = Some (codes "and")
number_word instr.Or = Some (codes "ior")
number_word instr.Equal = Some (codes "equ")
number_word instr.NotEqual = Some (codes "neq")
number_word instr.Less = Some (codes "les")
number_word instr.LessOrEqual = Some (codes "leq")
number_word instr.Greater = Some (codes "grt")
number_word instr.GreaterOrEqual = Some (codes "geq")
number_word (instr.Compare length) = Some (codes "cmp")
number_word _ = None

-- the word of an instruction that is over sets
abbrev pub set_word : Instr → Option (List ℕ)
set_word instr.Singleton = Some (codes "sgs")
set_word instr.SetRange = Some (codes "srg")
set_word instr.Union = Some (codes "uni")
set_word instr.Intersection = Some (codes "int")
set_word instr.Difference = Some (codes "dif")
set_word instr.IsMember = Some (codes "inn")
set_word instr.SetEqual = Some (codes "seq")
set_word instr.SetNotEqual = Some (codes "sne")
set_word instr.SetInside = Some (codes "sle")
set_word instr.SetAround = Some (codes "sge")
set_word _ = None

-- the word of an instruction that goes elsewhere
abbrev pub flow_word : Instr → Option (List ℕ)
flow_word (instr.Jump target) = Some (codes "ujp")
flow_word (instr.JumpIfFalse target) = Some (codes "fjp")
flow_word (instr.MarkStack level) = Some (codes "mst")
flow_word (instr.CallProcedure length target) = Some (codes "cup")
flow_word (instr.Enter variables evaluation) = Some (codes "ent")
flow_word (instr.Return results) = Some (codes "ret")
flow_word instr.Stop = Some (codes "stp")
flow_word _ = None

-- the word of an instruction that reads or writes
abbrev pub text_word : Instr → Option (List ℕ)
text_word (instr.ReadInteger point) = Some (codes "rdi")
text_word (instr.ReadChar point) = Some (codes "rdc")
text_word (instr.ReadLine point) = Some (codes "rln")
text_word (instr.EndOfLine point) = Some (codes "eln")
text_word instr.EndOfFile = Some (codes "eof")
text_word (instr.CheckInput point low high) = Some (codes "chn")
text_word instr.WriteInteger = Some (codes "wri")
text_word instr.WriteChar = Some (codes "wrc")
text_word instr.WriteBoolean = Some (codes "wrb")
text_word (instr.WriteString length) = Some (codes "wrs")
text_word instr.WriteLine = Some (codes "wln")
text_word _ = None

-- the word of an instruction that checks
abbrev pub check_word : Instr → Option (List ℕ)
check_word (instr.CheckRange site low high) = Some (codes "chk")
check_word (instr.CheckZero site) = Some (codes "ckz")
check_word (instr.CheckDefined site length) = Some (codes "ckd")
check_word (instr.CheckSum site) = Some (codes "cka")
check_word (instr.CheckDifference site) = Some (codes "cks")
check_word (instr.CheckProduct site) = Some (codes "ckm")
check_word (instr.CheckSquare site) = Some (codes "ckq")
check_word (instr.CheckMembers site) = Some (codes "ckr")
check_word (instr.CheckSet site low high) = Some (codes "ckb")
check_word (instr.Fail site) = Some (codes "err")
check_word _ = None

-- the word of an instruction
abbrev pub word_of : Instr → List ℕ
word_of i =
    unwrap_or
    (option_or (option_or (option_or (cell_word i) (number_word i)) (option_or (set_word i) (flow_word i)))
    (option_or (text_word i) (check_word i))) (codes "   ")

-- an instruction of each word, whatever its operands
abbrev pub templates : List Instr
templates =
    instr.LoadConstant (pos 0) ∷ instr.LoadSet 0 ∷ instr.LoadAddress 0 0 ∷ instr.Load 0 0 ∷ instr.Store 0 0 ∷
    instr.LoadIndirect 0 ∷ instr.StoreIndirect ∷ instr.LoadMany 0 ∷ instr.StoreMany 0 ∷ instr.Increase 0 ∷
    instr.IndexAddress (pos 0) 0 ∷ instr.Add ∷ instr.Subtract ∷ instr.Multiply ∷ instr.Divide ∷ instr.Modulo ∷
    instr.Negate ∷ instr.Absolute ∷ instr.Square ∷ instr.Odd ∷ instr.Not ∷ instr.And ∷ instr.Or ∷ instr.Equal ∷
    instr.NotEqual ∷ instr.Less ∷ instr.LessOrEqual ∷ instr.Greater ∷ instr.GreaterOrEqual ∷ instr.Compare 0 ∷
    instr.Singleton ∷ instr.SetRange ∷ instr.Union ∷ instr.Intersection ∷ instr.Difference ∷ instr.IsMember ∷
    instr.SetEqual ∷ instr.SetNotEqual ∷ instr.SetInside ∷ instr.SetAround ∷ instr.Jump 0 ∷ instr.JumpIfFalse 0 ∷
    instr.MarkStack 0 ∷ instr.CallProcedure 0 0 ∷ instr.Enter 0 0 ∷ instr.Return 0 ∷ instr.ReadInteger 0 ∷
    instr.ReadChar 0 ∷ instr.ReadLine 0 ∷ instr.EndOfLine 0 ∷ instr.EndOfFile ∷ instr.CheckInput 0 (pos 0) (pos 0) ∷
    instr.WriteInteger ∷ instr.WriteChar ∷ instr.WriteBoolean ∷ instr.WriteString 0 ∷ instr.WriteLine ∷ instr.Stop ∷
    instr.CheckRange 0 (pos 0) (pos 0) ∷ instr.CheckZero 0 ∷ instr.CheckDefined 0 0 ∷ instr.CheckSum 0 ∷
    instr.CheckDifference 0 ∷ instr.CheckProduct 0 ∷ instr.CheckSquare 0 ∷ instr.CheckMembers 0 ∷
    instr.CheckSet 0 (pos 0) (pos 0) ∷ instr.Fail 0 ∷ []

-- an instruction of a word, if there is one
abbrev pub template : List ℕ → Option Instr
template word = find (λ i. bytes_eq (word_of i) word) templates

-- ---- operands

-- the form of the operands of an instruction that names a label, a site or a point
abbrev pub naming_shape : Instr → Shape
naming_shape (instr.Jump target) = shape.Natural 999999
naming_shape (instr.JumpIfFalse target) = shape.Natural 999999
naming_shape (instr.ReadInteger point) = shape.Natural 999999
naming_shape (instr.ReadChar point) = shape.Natural 999999
naming_shape (instr.ReadLine point) = shape.Natural 999999
naming_shape (instr.EndOfLine point) = shape.Natural 999999
naming_shape (instr.CheckZero site) = shape.Natural 999999
naming_shape (instr.CheckSum site) = shape.Natural 999999
naming_shape (instr.CheckDifference site) = shape.Natural 999999
naming_shape (instr.CheckProduct site) = shape.Natural 999999
naming_shape (instr.CheckSquare site) = shape.Natural 999999
naming_shape (instr.CheckMembers site) = shape.Natural 999999
naming_shape (instr.Fail site) = shape.Natural 999999
naming_shape (instr.CallProcedure length target) = shape.Pair 65536 999999
naming_shape (instr.CheckDefined site length) = shape.Pair 999999 65536
naming_shape (instr.CheckInput point low high) = shape.Range
naming_shape (instr.CheckRange site low high) = shape.Range
naming_shape (instr.CheckSet site low high) = shape.Range
naming_shape _ = shape.Nothing

-- the form of an instruction's operands, with the limits of natural numbers
abbrev pub shape_of : Instr → Shape
shape_of (instr.LoadConstant value) = shape.Number
shape_of (instr.LoadSet members) = shape.Members
shape_of (instr.LoadAddress level offset) = shape.Cell
shape_of (instr.Load level offset) = shape.Cell
shape_of (instr.Store level offset) = shape.Cell
shape_of (instr.LoadIndirect offset) = shape.Natural 16777215
shape_of (instr.Increase offset) = shape.Natural 16777215
shape_of (instr.LoadMany length) = shape.Natural 65536
shape_of (instr.StoreMany length) = shape.Natural 65536
shape_of (instr.Compare length) = shape.Natural 65536
shape_of (instr.WriteString length) = shape.Natural 65536
shape_of (instr.IndexAddress low size) = shape.Element
shape_of (instr.MarkStack level) = shape.Small 15
shape_of (instr.Return results) = shape.Small 1
shape_of (instr.Enter variables evaluation) = shape.Pair 16777216 16777216
shape_of i = naming_shape i

-- the words of an instruction's operands
abbrev pub operand_words : Instr → List (List ℕ)
operand_words (instr.LoadConstant value) = signed_decimal value ∷ []
operand_words (instr.LoadSet members) = set_digits members ∷ []
operand_words (instr.LoadAddress level offset) = decimal level ∷ decimal offset ∷ []
operand_words (instr.Load level offset) = decimal level ∷ decimal offset ∷ []
operand_words (instr.Store level offset) = decimal level ∷ decimal offset ∷ []
operand_words (instr.LoadIndirect offset) = decimal offset ∷ []
operand_words (instr.LoadMany length) = decimal length ∷ []
operand_words (instr.StoreMany length) = decimal length ∷ []
operand_words (instr.Increase offset) = decimal offset ∷ []
operand_words (instr.IndexAddress low size) = signed_decimal low ∷ decimal size ∷ []
operand_words (instr.Compare length) = decimal length ∷ []
operand_words (instr.Jump target) = decimal target ∷ []
operand_words (instr.JumpIfFalse target) = decimal target ∷ []
operand_words (instr.MarkStack level) = decimal level ∷ []
operand_words (instr.CallProcedure length target) = decimal length ∷ decimal target ∷ []
operand_words (instr.Enter variables evaluation) = decimal variables ∷ decimal evaluation ∷ []
operand_words (instr.Return results) = decimal results ∷ []
operand_words (instr.ReadInteger point) = decimal point ∷ []
operand_words (instr.ReadChar point) = decimal point ∷ []
operand_words (instr.ReadLine point) = decimal point ∷ []
operand_words (instr.EndOfLine point) = decimal point ∷ []
operand_words (instr.CheckInput point low high) = decimal point ∷ signed_decimal low ∷ signed_decimal high ∷ []
operand_words (instr.WriteString length) = decimal length ∷ []
operand_words (instr.CheckRange site low high) = decimal site ∷ signed_decimal low ∷ signed_decimal high ∷ []
operand_words (instr.CheckZero site) = decimal site ∷ []
operand_words (instr.CheckDefined site length) = decimal site ∷ decimal length ∷ []
operand_words (instr.CheckSum site) = decimal site ∷ []
operand_words (instr.CheckDifference site) = decimal site ∷ []
operand_words (instr.CheckProduct site) = decimal site ∷ []
operand_words (instr.CheckSquare site) = decimal site ∷ []
operand_words (instr.CheckMembers site) = decimal site ∷ []
operand_words (instr.CheckSet site low high) = decimal site ∷ signed_decimal low ∷ signed_decimal high ∷ []
operand_words (instr.Fail site) = decimal site ∷ []
operand_words _ = []

-- an instruction of the same word with this natural number
abbrev pub with_natural : Instr → ℕ → Instr
with_natural (instr.LoadIndirect _) n = instr.LoadIndirect n
with_natural (instr.Increase _) n = instr.Increase n
with_natural (instr.LoadMany _) n = instr.LoadMany n
with_natural (instr.StoreMany _) n = instr.StoreMany n
with_natural (instr.Compare _) n = instr.Compare n
with_natural (instr.WriteString _) n = instr.WriteString n
with_natural (instr.Jump _) n = instr.Jump n
with_natural (instr.JumpIfFalse _) n = instr.JumpIfFalse n
with_natural (instr.ReadInteger _) n = instr.ReadInteger n
with_natural (instr.ReadChar _) n = instr.ReadChar n
with_natural (instr.ReadLine _) n = instr.ReadLine n
with_natural (instr.EndOfLine _) n = instr.EndOfLine n
with_natural (instr.CheckZero _) n = instr.CheckZero n
with_natural (instr.CheckSum _) n = instr.CheckSum n
with_natural (instr.CheckDifference _) n = instr.CheckDifference n
with_natural (instr.CheckProduct _) n = instr.CheckProduct n
with_natural (instr.CheckSquare _) n = instr.CheckSquare n
with_natural (instr.CheckMembers _) n = instr.CheckMembers n
with_natural (instr.Fail _) n = instr.Fail n
with_natural i n = i

-- an instruction of the same word with this small number
abbrev pub with_small : Instr → ℕ → Instr
with_small (instr.MarkStack _) n = instr.MarkStack n
with_small (instr.Return _) n = instr.Return n
with_small i n = i

-- an instruction of the same word with this level and offset
abbrev pub with_cell : Instr → ℕ → ℕ → Instr
with_cell (instr.LoadAddress _ _) level offset = instr.LoadAddress level offset
with_cell (instr.Load _ _) level offset = instr.Load level offset
with_cell (instr.Store _ _) level offset = instr.Store level offset
with_cell i level offset = i

-- an instruction of the same word with these natural numbers
abbrev pub with_pair : Instr → ℕ → ℕ → Instr
with_pair (instr.CallProcedure _ _) first second = instr.CallProcedure first second
with_pair (instr.Enter _ _) first second = instr.Enter first second
with_pair (instr.CheckDefined _ _) first second = instr.CheckDefined first second
with_pair i first second = i

-- an instruction of the same word with this id and these ends
abbrev pub with_range : Instr → ℕ → ℤ → ℤ → Instr
with_range (instr.CheckInput _ _ _) id low high = instr.CheckInput id low high
with_range (instr.CheckRange _ _ _) id low high = instr.CheckRange id low high
with_range (instr.CheckSet _ _ _) id low high = instr.CheckSet id low high
with_range i id low high = i

-- the operands that words tell: a level and an offset; two natural numbers; the least index and the size of an element;
-- two numbers; an id and two numbers
abbrev pub cell : List ℕ → Option (ℕ × ℕ)
cell words = both (natural 15) (natural 16777215) words

abbrev pub pair : (first second : ℕ) → List ℕ → Option (ℕ × ℕ)
pair first second words = both (natural first) (natural second) words

abbrev pub element : List ℕ → Option (ℤ × ℕ)
element words = both number (natural 65536) words

abbrev pub ends : List ℕ → Option (ℤ × ℤ)
ends words = both number number words

abbrev pub range : List ℕ → Option (ℕ × (ℤ × ℤ))
range words = both (natural 999999) ends words

-- the instruction of the same word with the operands that words tell, if they have its form
abbrev pub in_shape : Shape → Instr → List ℕ → Option Instr
in_shape shape.Nothing i words = None
in_shape shape.Number i words = option_map instr.LoadConstant (number words)
in_shape shape.Members i words = option_map instr.LoadSet (members words)
in_shape (shape.Natural limit) i words = option_map (with_natural i) (natural limit words)
in_shape (shape.Small limit) i words = option_map (with_small i) (natural limit words)
in_shape shape.Cell i words = option_map (λ p. with_cell i p.0 p.1) (cell words)
in_shape (shape.Pair first second) i words = option_map (λ p. with_pair i p.0 p.1) (pair first second words)
in_shape shape.Element i words = option_map (λ p. instr.IndexAddress p.0 p.1) (element words)
in_shape shape.Range i words = option_map (λ p. with_range i p.0 p.1.0 p.1.1) (range words)

abbrev pub with_words : Instr → List ℕ → Option Instr
with_words i words = in_shape (shape_of i) i words
