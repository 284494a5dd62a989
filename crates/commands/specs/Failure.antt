-- Why something was not made.
use Rattle.commands.specs.declared.failure.Failure.{Failure}
use Rattle.commands.specs.declared.failure.Failure.TheVariants.{Cause, Memory}

-- For a cause, and not for want of memory.
abbrev pub IsCause : {E : Type 0} → Failure E → Type 0
IsCause (Cause cause) = Unit {0}
IsCause (Memory e) = ⊥

-- Where it is for a cause, this holds of it.
abbrev pub IfCause : {E : Type 0} → Failure E → (E → Type 0) → Type 0
IfCause (Cause cause) P = P cause
IfCause (Memory e) P = Unit {0}
