-- Why a typed tree has no code. It does not say when that is so.
use Rattle.memory.specs.Refused.{the_refusal}
use Rattle.code_emitter.specs.declared.emitter.Loss.{Loss}
use Rattle.code_emitter.specs.declared.emitter.Loss.TheVariants as loss
use Rattle.code_generator.specs.declared.fault.GenFault.{GenFault}
use Rattle.code_generator.specs.declared.fault.GenFault.TheVariants as fault

-- the fault that tells why the list of code was lost
abbrev pub fault_of : Loss → GenFault
fault_of (loss.Memory _) = fault.Memory the_refusal
fault_of loss.TooLarge = fault.TooLarge
