-- The facts that a page source carries, together.
use Rattle.std.proofs.Common.{◌≡◌, ◌≤◌, ℕ, true, false, List, length, is_some, Some, None, Option, refl, ap}
use Rattle.std.proofs.lemmas.Bool.{both_ways}
use Rattle.store.specs.Keeping.{keeps_of}
use Rattle.store.specs.Places.{OnceIn, FitIn}
use Rattle.page.specs.Checks.{check_refusal, IsPage}
use Rattle.page.specs.Pages.{places_of, page_of}
use Rattle.page.specs.declared.refusal.Refusal.{Refusal}
use Rattle.page.specs.declared.source.Page.{Page}

none_of : (said : Option Refusal) → is_some said ≡ false → said ≡ None
none_of None is = refl
none_of (Some e) is = absurd (both_ways true is refl)

-- its bytes are a page
pub is_page : (p : Page) → IsPage p.bytes.now p.arities
is_page p = record { passes = none_of _ p.passes; whole = p.whole; kept = keeps_of p.arities (places_of p.bytes.now) p.few p.fit p.once }

-- and bytes that are a page have these facts
abbrev pub Carried : List ℕ → List ℕ → Type 0
Carried bytes arities = record {
  passes : is_some (check_refusal bytes arities) ≡ false;
  whole : page_of (places_of bytes) ≡ bytes;
  few : length (places_of bytes) ≤ 256;
  fit : FitIn arities (places_of bytes);
  once : OnceIn (places_of bytes);
}

pub carried : (bytes arities : List ℕ) → IsPage bytes arities → Carried bytes arities
carried bytes arities page = record { passes = ap is_some page.passes; whole = page.whole; few = page.kept.few; fit = page.kept.fit; once = page.kept.once }
