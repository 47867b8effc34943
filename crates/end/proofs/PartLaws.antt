-- What an end may have or lack is told by its parts: two waiting replies that are one are due at one time. (`cc` knows that Some is injective, and
-- takes no pair apart.)
use Rattle.std.proofs.Common.{ℕ, ◌≡◌, ap}
use Rattle.message.specs.declared.Host.{Host}
use Rattle.end.specs.Parts.{Due}

pub due_time : {due due' : ℕ} {k k' : Host} → Due due k ≡ Due due' k' → due ≡ due'
due_time {due = due} {due' = due'} {k = k} {k' = k'} e =
    let both : (due, k) ≡ (due', k') = cc in
    ap (λ (x : ℕ × Host). x.0) both
