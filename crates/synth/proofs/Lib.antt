-- Laws on spans, syntheses and their removal that the crates above cite, by subject.

-- Spans       a span lies within the recording: `span_ordered`, `span_inside`, `span_within`
-- Bounds      how large a synthesis can be: `envelope_bounded`, `synth_bounded`, `sized_bounded`
-- Parts       samples that are replaced in a list, and a part of a list that is lent and comes back:
--             `z_at_z_fill_below`, `z_at_z_fill_above`, `z_at_z_fill_from`, `part_sample`, `part_filled`
-- Removals    the loops of `subtract_span` and `subtract`; `length_subtracted`, `subtracted_more`
-- Samples     what `subtract` leaves, sample by sample: `subtracted_at`, `outside_spans`
-- RustFields  all of it goes by the Rust's own fields of a fit: `span_alike`, `synth_alike`, `subtracted_alike`
pub mod Spans
pub mod Bounds
pub mod Parts
pub mod Removals
pub mod Samples
pub mod RustFields
