-- What sealing hashes.
use Rattle.std.specs.Prelude.{ℕ, List, ◌++◌, length}
use Rattle.hash.specs.Bytes.{str, pad}

-- M': header and text, each padded to a multiple of 16, and their lengths as 8 bytes each
unfoldable pub message : (header text : List ℕ) → List ℕ
message header text = pad 16 header ++ (pad 16 text ++ (str 8 (length header) ++ str 8 (length text)))
