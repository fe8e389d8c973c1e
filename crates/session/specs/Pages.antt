-- A page that a listing is written on. Rests on nothing.
use Rattle.std.specs.Prelude.{◌≡◌, ℕ, ◌+◌, ◌≤◌, List, ◌++◌, length, take, drop}
use Rattle.session.specs.declared.listing.Page.{Page}

-- what is left of the page has room for a text
abbrev pub HasRoom : Page → List ℕ → Type 0
HasRoom p text = p.written + length text ≤ length p.bytes.now

-- text written behind what was written so far: what stands before and behind it is as it was
pub record Wrote (old new : Page) (text : List ℕ) : Type 0 where
  pub same_bytes : new.bytes.ghost_name ≡ old.bytes.ghost_name
  pub same_length : length new.bytes.now ≡ length old.bytes.now
  pub end : new.written ≡ old.written + length text
  pub front : take new.written new.bytes.now ≡ take old.written old.bytes.now ++ text
  pub behind : drop new.written new.bytes.now ≡ drop new.written old.bytes.now
