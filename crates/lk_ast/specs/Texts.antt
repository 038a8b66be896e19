-- The bytes of a text, whoever owns them.
use Rattle.lk_ast.specs.declared.text.TextBytes.{TextBytes}
use Rattle.lk_ast.specs.declared.text.TextBytes.TheVariants as bytes
use Rattle.std.specs.Prelude.{ℕ, List, string_bytes}

abbrev pub bytes_of : TextBytes → List ℕ
bytes_of (bytes.Own text) = string_bytes text
bytes_of (bytes.Shared text) = string_bytes text
