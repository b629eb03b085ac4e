-- Headers over plain numbers: a header is its 145 fields in their order. What each function returns, and what it leaves in its buffer s. Assumes nothing.
use Rattle.std.specs.Prelude.{cond, List, ◌++◌, ℕ, eqb, length}
use Rattle.header.specs.Fields.{run, front_fields, front_of, extension_fields, extension_of}
use Rattle.header.specs.Header.{header_refusal, header_read_of, write_number, write_of}
use Rattle.header.specs.declared.Header.{Header}
use Rattle.abi.specs.Status.{status_of}

-- the fields of a header: the front's 119, then the extension's 26
unfoldable pub header_values : Header → List ℕ
header_values r = front_fields r.front ++ extension_fields r.extension

-- the header that has these fields
unfoldable pub header_from : List ℕ → Header
header_from v = record { front = front_of (run v 0 1 119); extension = extension_of (run v 119 1 26) }

-- a record of another length than 145 is 1, else the reader or the writer answers
unfoldable pub header_read_status : (h s : List ℕ) → ℕ
header_read_status h s = cond (eqb (length s) 145) (status_of (header_refusal h) 0) (status_of 1 0)

unfoldable pub header_read_values : (h s : List ℕ) → List ℕ
header_read_values h s = cond (eqb (length s) 145) (cond (eqb (header_refusal h) 0) (header_values (header_read_of h).header) s) s

unfoldable pub header_write_status : (v s : List ℕ) → ℕ
header_write_status v s = cond (eqb (length v) 145) (status_of (write_number (header_from v) (length s)) 0) (status_of 1 0)

unfoldable pub header_write_bytes : (v s : List ℕ) → List ℕ
header_write_bytes v s = cond (eqb (length v) 145) (write_of (header_from v) s) s
