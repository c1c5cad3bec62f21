-- The tokens that end a list, told by their sorts.
use Rattle.std.proofs.Common.{◌≡◌, true, false, refl}
use Rattle.plc_base.specs.declared.kind.Kind.{Kind}
use Rattle.plc_base.specs.declared.kind.Kind.TheVariants.{Word, Number, Truth, Span, Address, Symbol, Include, Left, End, Bad}
use Rattle.plc_tokens.specs.declared.sort.Form.TheVariants as form
use Rattle.plc_tokens.specs.declared.sort.Sort.{Sort}
use Rattle.plc_tokens.specs.declared.sort.Sort.TheVariants as sort
use Rattle.plc_tokens.specs.Sorts.{sort_of}
use Rattle.plc_tokens.specs.Tokens.{ends, is_last, stops}

-- a kind that ends a list has a sort that does
pub last_sort : (k : Kind) → ends k ≡ true → is_last (sort_of k) ≡ true
last_sort End h = refl
last_sort (Bad rule) h = refl
last_sort (Word word) h = absurd (let e : false ≡ true = h in cc)
last_sort (Left word) h = absurd (let e : false ≡ true = h in cc)
last_sort (Number value want) h = absurd (let e : false ≡ true = h in cc)
last_sort (Truth value) h = absurd (let e : false ≡ true = h in cc)
last_sort (Span ns) h = absurd (let e : false ≡ true = h in cc)
last_sort (Symbol place) h = absurd (let e : false ≡ true = h in cc)
last_sort (Address dir size numbers) h = absurd (let e : false ≡ true = h in cc)
last_sort (Include name) h = absurd (let e : false ≡ true = h in cc)

-- what is last stops a phrase
pub last_stops : (s : Sort) → is_last s ≡ true → stops s ≡ true
last_stops (sort.Form form.End) h = refl
last_stops (sort.Form form.Bad) h = refl
last_stops (sort.Form form.Left) h = refl
last_stops (sort.Form form.Name) h = absurd (let e : false ≡ true = h in cc)
last_stops (sort.Form form.Integer) h = absurd (let e : false ≡ true = h in cc)
last_stops (sort.Form form.Typed) h = absurd (let e : false ≡ true = h in cc)
last_stops (sort.Form form.Truth) h = absurd (let e : false ≡ true = h in cc)
last_stops (sort.Form form.Span) h = absurd (let e : false ≡ true = h in cc)
last_stops (sort.Form form.Address) h = absurd (let e : false ≡ true = h in cc)
last_stops (sort.Form form.Include) h = absurd (let e : false ≡ true = h in cc)
last_stops (sort.Symbol s) h = absurd (let e : false ≡ true = h in cc)
last_stops (sort.Word w) h = absurd (let e : false ≡ true = h in cc)
