-- Lines and statuses of faults, and of arguments that are no command. The promise cites them.
use Rattle.std.specs.Prelude.{◌≡◌, ◌≢◌, ◌⊎◌, ℕ, List, codes, string_bytes}
use Rattle.std.specs.declared.io.ErrorKind.{ErrorKind}
use Rattle.std.specs.declared.io.ErrorKind.TheVariants.{OutOfMemory}
use Rattle.jc_io.specs.Written.{Stream, Wrote, WrotePart, Sent}
use Rattle.jc_io.specs.declared.io.ReadFault.{ReadFault}
use Rattle.jc_io.specs.declared.io.ReadFault.TheVariants as reading
use Rattle.jc_cli.specs.declared.fault.WordsFault.{WordsFault}
use Rattle.jc_cli.specs.declared.fault.WordsFault.TheVariants as words
use Rattle.jc_program.specs.declared.fault.WorkFault.{WorkFault}
use Rattle.jc_program.specs.declared.fault.WorkFault.TheVariants.{Read, Write, TooManyLines, CutShort, NoThread, Memory}

abbrev pub fault_status : WorkFault → ℕ
fault_status Read = 4
fault_status Write = 4
fault_status TooManyLines = 4
fault_status CutShort = 4
fault_status (NoThread refused) = 5
fault_status Memory = 5

-- the line of standard error
abbrev pub fault_line : WorkFault → List ℕ
fault_line Read = codes "read failed\n"
fault_line Write = codes "write failed\n"
fault_line TooManyLines = codes "too many lines\n"
fault_line CutShort = codes "the input ended within a text\n"
fault_line (NoThread refused) = codes "no thread\n"
fault_line Memory = codes "no memory\n"

-- the fault of a reading
abbrev pub read_fault : ReadFault → WorkFault
read_fault reading.Failed = Read
read_fault reading.Memory = Memory

-- What is written for arguments that are no command, before and after on the output and on standard error, and the
-- status: help on the output, unless a write fails; else on standard error why they are wrong, or that there was no
-- memory.
abbrev pub Explains : WordsFault → Stream → Stream → Stream → Stream → ℕ → Type 0
Explains (words.Help text) old_out new_out old_err new_err status =
    ((status ≡ 0) × Wrote (string_bytes text) old_out new_out × (new_err ≡ old_err))
    ⊎ ((status ≡ 4) × WrotePart (string_bytes text) old_out new_out × Sent (fault_line Write) old_err new_err)
Explains (words.Usage text) old_out new_out old_err new_err status =
    (status ≡ 2) × (new_out ≡ old_out) × Sent (string_bytes text) old_err new_err
Explains words.Memory old_out new_out old_err new_err status =
    (status ≡ 5) × (new_out ≡ old_out) × Sent (fault_line Memory) old_err new_err

-- What is written on standard error for arguments that can't be read, and the status, by the kind of the error: there
-- was no memory for them; any other kind means that an argument isn't UTF-8.
abbrev pub RefusesWords : ErrorKind → Stream → Stream → ℕ → Type 0
RefusesWords kind old_err new_err status =
    ((kind ≡ OutOfMemory) × (status ≡ 5) × Sent (fault_line Memory) old_err new_err)
    ⊎ ((kind ≢ OutOfMemory) × (status ≡ 2) × Sent (codes "a word is not UTF-8\n") old_err new_err)
