-- Why no more is written.
use Rattle.ob_session.specs.declared.exit.Exit.{Exit}
use Rattle.ob_session.specs.declared.exit.Exit.TheVariants as exit

-- a failed write, or want of memory
abbrev pub IsStop : Exit → Type 0
IsStop exit.WriteFault = Unit {0}
IsStop exit.NoMemory = Unit {0}
IsStop exit.Done = ⊥
IsStop exit.Usage = ⊥
IsStop exit.BadBundle = ⊥
IsStop exit.ReadFault = ⊥
IsStop exit.LineTooLong = ⊥
IsStop exit.InputTooLong = ⊥

-- how a session can end behind its first line
abbrev pub IsEnd : Exit → Type 0
IsEnd exit.Done = Unit {0}
IsEnd exit.LineTooLong = Unit {0}
IsEnd exit.InputTooLong = Unit {0}
IsEnd exit.ReadFault = Unit {0}
IsEnd exit.WriteFault = Unit {0}
IsEnd exit.NoMemory = Unit {0}
IsEnd exit.Usage = ⊥
IsEnd exit.BadBundle = ⊥
