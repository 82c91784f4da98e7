-- How an object keeps its properties.
use Rattle.ob_items.specs.Properties.{Keyed, no_properties, only_named, only_indices}
use Rattle.ob_items.specs.declared.properties.Kept.{Kept}
use Rattle.ob_items.specs.declared.properties.Kept.TheVariants as K

-- the properties that are kept so
abbrev pub properties_kept : Kept → Keyed
properties_kept K.Empty = no_properties
properties_kept (K.Few named) = only_named named
properties_kept (K.Indices indices) = only_indices indices
properties_kept (K.Both indices named) = record { indices = indices; named = named }
properties_kept (K.Many keyed) = keyed
