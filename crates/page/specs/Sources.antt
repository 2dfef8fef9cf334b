-- What a page means as a source.
use Rattle.std.specs.Prelude.{ℕ, cond, List, [], is_some}
use Rattle.store.specs.Keeping.{keeps_of}
use Rattle.store.specs.Store.{Store, Kept}
use Rattle.page.specs.Checks.{check_refusal}
use Rattle.page.specs.Pages.{store_of, places_of}
use Rattle.page.specs.declared.source.Page.{Page}

-- its bytes as places, and the arities that it was opened with
abbrev pub page_model : Page → Store
page_model p = store_of p.bytes.now p.arities

-- a page keeps what every source keeps
pub page_keeps : (p : Page) → Kept (page_model p)
page_keeps p = keeps_of p.arities (places_of p.bytes.now) p.few p.fit p.once

-- the bytes that opening takes: all of them where they pass the check, and otherwise none
abbrev pub opened : List ℕ → List ℕ → List ℕ
opened bytes arities = cond (is_some (check_refusal bytes arities)) [] bytes
