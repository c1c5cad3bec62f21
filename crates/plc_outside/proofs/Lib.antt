pub mod CallsLemmas
pub mod ComplaintLemmas
mod FetchLemmas
mod KeptLemmas
mod SpanLemmas
