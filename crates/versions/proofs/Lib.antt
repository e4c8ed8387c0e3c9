pub mod Refusals
pub mod Making
pub mod Moved
pub mod Words
pub mod RoundTrip
pub mod Serving
pub mod Reaching
pub mod Promises
