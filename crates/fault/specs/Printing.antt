-- The words that a person reads.
use Rattle.std.specs.Prelude.{ℕ, List, codes}
use Rattle.fault.specs.declared.layer.Layer.{Layer}
use Rattle.fault.specs.declared.layer.Layer.TheVariants.{Script, Source, Plan, Page, Book}

-- a layer's word
abbrev pub layer_word : Layer → List ℕ
layer_word Script = codes "script"
layer_word Source = codes "source"
layer_word Plan = codes "plan"
layer_word Page = codes "page"
layer_word Book = codes "book"
