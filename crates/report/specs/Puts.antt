-- Bytes put into a page: `Put` of its buffer, at the place up to which it is filled. It still lends the same buffer.
use Rattle.std.specs.Prelude.{ℕ, ◌≡◌, List}
use Rattle.report.specs.Put.{Put}
use Rattle.report.specs.declared.page.Page.{Page}

-- What a function that puts these bytes into a page makes of it
pub record Puts (before : Page) (bytes : List ℕ) (after : Page) : Type 0 where
  pub put : Put before.bytes.now before.used bytes after.bytes.now after.used
  pub same_buffer : after.bytes.ghost_name ≡ before.bytes.ghost_name
