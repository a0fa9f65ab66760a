-- The fault that the whole compiler tells where one of its layers refuses: want of memory is told alike by all.
-- It says nothing of which layer refuses a source.
use Rattle.memory.specs.Refused.{the_refusal}
use Rattle.lexer.specs.declared.fault.LexFault.{LexFault}
use Rattle.lexer.specs.declared.fault.LexFault.TheVariants as lex
use Rattle.token_cursor.specs.declared.fault.ParseFault.{ParseFault}
use Rattle.token_cursor.specs.declared.fault.ParseFault.TheVariants as parse
use Rattle.typed_tree.specs.declared.fault.TypeFault.{TypeFault}
use Rattle.typed_tree.specs.declared.fault.TypeFault.TheVariants as typing
use Rattle.certificate.specs.declared.fault.ReadFault.{ReadFault}
use Rattle.certificate.specs.declared.fault.ReadFault.TheVariants as read
use Rattle.checker_expressions.specs.declared.fault.CheckFault.{CheckFault}
use Rattle.checker_expressions.specs.declared.fault.CheckFault.TheVariants as check
use Rattle.code_generator.specs.declared.fault.GenFault.{GenFault}
use Rattle.code_generator.specs.declared.fault.GenFault.TheVariants as generate
use Rattle.pcode_assembler.specs.declared.fault.AsmFault.{AsmFault}
use Rattle.pcode_assembler.specs.declared.fault.AsmFault.TheVariants as assembler
use Rattle.report_text.specs.declared.fault.Fault.{Fault}
use Rattle.report_text.specs.declared.fault.Fault.TheVariants.{Memory, Lex, Parse, Typing, Certificate, Check, Generate}
use Rattle.report_text.specs.declared.fault.Fault.TheVariants.{Code}

abbrev pub lexer_fault : LexFault → Fault
lexer_fault (lex.Memory _) = Memory the_refusal
lexer_fault fault = Lex fault

abbrev pub parser_fault : ParseFault → Fault
parser_fault (parse.Memory _) = Memory the_refusal
parser_fault fault = Parse fault

abbrev pub typing_fault : TypeFault → Fault
typing_fault (typing.Memory _) = Memory the_refusal
typing_fault fault = Typing fault

abbrev pub certificate_fault : ReadFault → Fault
certificate_fault (read.Memory _) = Memory the_refusal
certificate_fault fault = Certificate fault

abbrev pub checker_fault : CheckFault → Fault
checker_fault (check.Memory _) = Memory the_refusal
checker_fault fault = Check fault

abbrev pub generator_fault : GenFault → Fault
generator_fault (generate.Memory _) = Memory the_refusal
generator_fault generate.TooLarge = Generate generate.TooLarge

abbrev pub assembler_fault : AsmFault → Fault
assembler_fault (assembler.Memory _) = Memory the_refusal
assembler_fault fault = Code fault
