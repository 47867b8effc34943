-- Bytes written over a part of a buffer: what the functions promise that write a part of a message.
use Rattle.std.specs.Prelude.{ℕ, ◌+◌, List, ◌++◌, length, take, drop}

-- the buffer with the bytes b from `at` on, and every other byte as it was
unfoldable pub splice : ℕ → List ℕ → List ℕ → List ℕ
splice at b out = take at out ++ (b ++ drop (at + length b) out)
